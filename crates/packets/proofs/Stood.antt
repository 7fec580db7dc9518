-- How one store stands beside the list of its packets: the spans of the list are those that are live, and what is in each is what the bytes hold there.
-- Assumes nothing.
use mathlib.Core.Path.{◌≡◌, refl, sym, ◌∙◌}
use mathlib.Core.Option.{Option, none, some}
use mathlib.Core.List.{List, []}
use Prim.Native.Nat.{ℕ, ◌≤◌}
use native.Mathlib.Omega.{arith}
use lib.ListN.{length}
use Rattle.basics.proofs.Clash.{clash}
use Rattle.ledger.specs.Ledger.{Ledger, live, free, setup, by_class, Stacks}
use Rattle.ledger.specs.Calls.{Token}
use Rattle.ledger.proofs.Places.{Where, here, further, where?, at_none}
use Rattle.ledger.proofs.CallsWell.{setup_well}
use Rattle.ledger.proofs.ByClass.{class_laws}
use Rattle.tables.specs.Words.{Edition}
use Rattle.tables.specs.Sound.{Sound}
use Rattle.parts.specs.Bytes.{part_of}
use Rattle.packets.specs.Stores.{Kept}
use Rattle.packets.specs.Shelf.{Held, contents}
use Rattle.packets.specs.Claims.{Bare, no_store, just_set_up}
use Rattle.packets.proofs.LiveSpans.{LiveAt}
use Rattle.packets.proofs.Listed.{Distinct}

-- ---- what a list has of a span, beside the live spans and the bytes
pub data Agrees (bytes : List ℕ) (l : Ledger Stacks) (span : Token) : Option (List ℕ) → Type 0 where
  listed : {held : List ℕ} (n : ℕ) → LiveAt span n l → held ≡ part_of bytes span.offset n → Agrees bytes l span (some held)
  not_listed : ((n : ℕ) → ¬ LiveAt span n l) → Agrees bytes l span none

pub unlisted : {bytes : List ℕ} {l : Ledger Stacks} {span : Token} {c : Option (List ℕ)} → Agrees bytes l span c → ((n : ℕ) → ¬ LiveAt span n l)
    → c ≡ none
unlisted (listed n a e) h = absurd (h n a)
unlisted (not_listed k) h = refl

pub is_listed : {bytes : List ℕ} {l : Ledger Stacks} {span : Token} {c : Option (List ℕ)} {n : ℕ} → Agrees bytes l span c → LiveAt span n l
    → (held : List ℕ) × (c ≡ some held)
is_listed (listed {held} m a e) b = (held, refl)
is_listed {n = n} (not_listed h) b = absurd (h n b)

-- ---- a store whose words stand for the ledger l, with the packets of this list out of it
pub record Shelved (E : Edition) (k : Kept) (l : Ledger Stacks) (held : List Held) : Type 0 where
  pub sound : Sound E k.words l
  pub long_enough : k.words.size ≤ length k.bytes
  pub agrees : (span : Token) → Agrees k.bytes l span (contents span held)
  pub distinct : Distinct held

pub data Stood (E : Edition) (k : Kept) (held : List Held) : Type 0 where
  not_there : k.words.count ≡ 0 → k.words.size ≡ 0 → held ≡ [] → Stood E k held
  there : (l : Ledger Stacks) → Shelved E k l held → Stood E k held

-- no store is shorter than its size
pub never_short : {E : Edition} {k : Kept} {held : List Held} → Stood E k held → k.words.size ≤ length k.bytes
never_short (not_there c s e) = omega arith
never_short (there l s) = s.long_enough

-- ---- a store that was just set up, or that is not there
setup_free : (size count : ℕ) (span : Token) (n : ℕ) → ¬ LiveAt span n (setup by_class size count)
unfolding setup
setup_free size count span n a = go (where? a)
  where
    go : Where (live n span.number) span.offset (free size 0) [] → ⊥
    go (here e z) = clash (cc)
    go (further p e b) = at_none b

pub bare_stands : {E : Edition} {k : Kept} → Bare E k → Stood E k []
unfolding contents setup
bare_stands (no_store c s) = not_there c s refl
bare_stands {k = k} (just_set_up size count S long) = there (setup by_class size count) record {
  sound = S;
  long_enough =
      let size_is : k.words.size ≡ size =
      sym S.well.lined.cover ∙ (setup_well by_class class_laws size k.words.count S.room.tables.count_low).lined.cover in
      omega (arith, size_is, long);
  agrees = λ span. not_listed (setup_free size count span);
  distinct = tt;
}
