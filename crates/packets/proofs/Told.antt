-- After any run from bare stores: what a read, a question for a length, a fill and a hand-back answer, by the history; and no call gives 9. Assumes nothing.
use mathlib.Core.Path.{◌≡◌, refl, sym, ap, subst, ◌∙◌}
use mathlib.Core.Logic.{inl, inr, ◌≢◌}
use mathlib.Core.Bool.{Bool, false, cond}
use mathlib.Core.Option.{Option, none, some}
use mathlib.Core.List.{List, []}
use Prim.Native.Nat.{ℕ, ◌≤◌, ◌<◌}
use native.Mathlib.Omega.{arith}
use lib.ListN.{length}
use Rattle.basics.proofs.Clash.{clash}
use Rattle.ledger.specs.Ledger.{Answer, done, length_is, refused}
use Rattle.ledger.specs.Calls.{Token}
use Rattle.tables.specs.Words.{Edition}
use Rattle.packets.specs.declared.Store.{Store}
use Rattle.packets.specs.Stores.{Kept, Two, at}
use Rattle.packets.specs.OneStore.{shown_by, read_in, length_in, fill_in, hand_back_in}
use Rattle.packets.specs.Calls.{PacketCall, HandBack, Fill, Read, LengthOf, Answered, shows, plain, too_short, nine, on, packet_words}
use Rattle.packets.specs.Promise.{PacketPromise}
use Rattle.packets.specs.Runs.{Happened, PacketRun}
use Rattle.packets.specs.Shelf.{Held, contents, shelf}
use Rattle.packets.specs.Claims.{AllBare, CannotBeRead}
use Rattle.packets.proofs.OneStore.{NotOut, LengthCase, tells, tells_not, FillCase, fills, too_many, fills_not}
use Rattle.packets.proofs.OneStore.{BackCase, gives, gives_not}
use Rattle.packets.proofs.Lengths.{length_case, read_from}
use Rattle.packets.proofs.Fills.{fill_case}
use Rattle.packets.proofs.HandBacks.{back_case}
use Rattle.packets.proofs.TwoStores.{not_short}
use Rattle.packets.proofs.RunStands.{run_from_bare, store_stands, promise_follows}

-- of a span a list has one thing
one_content : {c : Option (List ℕ)} {a b : List ℕ} → c ≡ some a → c ≡ some b → a ≡ b
one_content e f = cc

not_both : {A : Type 0} {c : Option (List ℕ)} {b : List ℕ} → c ≡ some b → c ≡ none → A
not_both e f = clash (cc)

cannot : (k : Kept) (c : ℕ) → NotOut k c → CannotBeRead k (plain (refused c))
cannot k c (inl e) = inl (ap (λ (n : ℕ). plain (refused n)) e)
cannot k c (inr (inl e)) = inr (inl (ap (λ (n : ℕ). plain (refused n)) e))
cannot k c (inr (inr e)) = inr (inr (ap (λ (n : ℕ). plain (refused n)) e.0, e.1))

-- ---- what the cases of one store say of a packet that is out, and of one that is not
length_told : {k : Kept} {held : List Held} {span : Token} {x : Answer} {bytes : List ℕ} → LengthCase k held span x → contents span held ≡ some bytes
    → x ≡ length_is (length bytes)
length_told (tells n is many its) c = ap length_is (many ∙ ap length (one_content is c))
length_told (tells_not n is why) c = not_both c is

length_not_told : {k : Kept} {held : List Held} {span : Token} {x : Answer} → LengthCase k held span x → contents span held ≡ none
    → CannotBeRead k (plain x)
length_not_told (tells n is many its) c = not_both is c
length_not_told {k} (tells_not n is why) c = cannot k n why

module _ (E : Edition) where
  shown : {k : Kept} {held : List Held} {span : Token} {x : Answer} {bytes : List ℕ} → length_in E span k ≡ x → LengthCase k held span x
      → contents span held ≡ some bytes → read_in E span k ≡ bytes
  unfolding shown_by
  shown {k} {span = span} e (tells n is many its) c = read_from E k span (length_is n) e ∙ (sym its ∙ one_content is c)
  shown e (tells_not n is why) c = not_both c is

  not_shown : {k : Kept} {held : List Held} {span : Token} {x : Answer} → length_in E span k ≡ x → LengthCase k held span x
      → contents span held ≡ none → read_in E span k ≡ []
  unfolding shown_by
  not_shown e (tells n is many its) c = not_both is c
  not_shown {k} {span = span} e (tells_not n is why) c = read_from E k span (refused n) e

  fill_ends_done : {k : Kept} {held : List Held} {span : Token} {new : List ℕ} {x : Answer × Kept} {bytes : List ℕ} → FillCase E k held span new x
      → contents span held ≡ some bytes → length new ≤ length bytes → x.0 ≡ done
  fill_ends_done (fills is few next) c h = refl
  fill_ends_done (too_many is more) c h = absurd (omega (arith, ap length (one_content is c)))
  fill_ends_done (fills_not n is why) c h = not_both c is

  fill_ends_17 : {k : Kept} {held : List Held} {span : Token} {new : List ℕ} {x : Answer × Kept} {bytes : List ℕ} → FillCase E k held span new x
      → contents span held ≡ some bytes → length bytes < length new → x.0 ≡ refused 17
  fill_ends_17 (fills is few next) c h = absurd (omega (arith, ap length (one_content is c)))
  fill_ends_17 (too_many is more) c h = refl
  fill_ends_17 (fills_not n is why) c h = not_both c is

  fill_ends_none : {k : Kept} {held : List Held} {span : Token} {new : List ℕ} {x : Answer × Kept} → FillCase E k held span new x
      → contents span held ≡ none → CannotBeRead k (plain x.0)
  fill_ends_none (fills is few next) c = not_both is c
  fill_ends_none (too_many is more) c = not_both is c
  fill_ends_none {k} (fills_not n is why) c = cannot k n why

  back_ends_done : {k : Kept} {held : List Held} {span : Token} {x : Answer × Kept} {bytes : List ℕ} → BackCase E k held span x
      → contents span held ≡ some bytes → x.0 ≡ done
  back_ends_done (gives is next) c = refl
  back_ends_done (gives_not n is why) c = not_both c is

  back_ends_none : {k : Kept} {held : List Held} {span : Token} {x : Answer × Kept} → BackCase E k held span x → contents span held ≡ none
      → CannotBeRead k (plain x.0)
  back_ends_none (gives is next) c = not_both is c
  back_ends_none {k} (gives_not n is why) c = cannot k n why

  -- ---- what is answered where no store is too short
  read_answer : {t u : Two} {s : Store} {span : Token} {a : Answered} → too_short t ≡ false → PacketPromise E (Read s span) t u a
      → a ≡ shows (read_in E span (at s t))
  unfolding packet_words
  read_answer {t} {u} {s} {span} long p =
      ap (λ (x : Answered × Two). x.0) p.exact ∙ ap (λ (b : Bool). shows (cond b [] (read_in E span (at s t)))) long

  length_answer : {t u : Two} {s : Store} {span : Token} {a : Answered} → too_short t ≡ false → PacketPromise E (LengthOf s span) t u a
      → a ≡ plain (length_in E span (at s t))
  unfolding packet_words
  length_answer {t} {u} {s} {span} long p =
      ap (λ (x : Answered × Two). x.0) (p.exact ∙ ap (λ (b : Bool). nine b t (plain (length_in E span (at s t)), t)) long)

  fill_answer : {t u : Two} {s : Store} {span : Token} {new : List ℕ} {a : Answered} → too_short t ≡ false → PacketPromise E (Fill s span new) t u a
      → a ≡ plain (fill_in E span new (at s t)).0
  unfolding packet_words
  fill_answer {t} {u} {s} {span} {new} long p =
      ap (λ (x : Answered × Two). x.0) (p.exact ∙ ap (λ (b : Bool). nine b t (on s t (fill_in E span new (at s t)))) long)

  back_answer : {t u : Two} {s : Store} {span : Token} {a : Answered} → too_short t ≡ false → PacketPromise E (HandBack s span) t u a
      → a ≡ plain (hand_back_in E span (at s t)).0
  unfolding packet_words
  back_answer {t} {u} {s} {span} long p =
      ap (λ (x : Answered × Two). x.0) (p.exact ∙ ap (λ (b : Bool). nine b t (on s t (hand_back_in E span (at s t)))) long)

  -- ---- after any run from bare stores
  run_long : {t u : Two} {hs : List Happened} → AllBare E t → PacketRun E t hs u → too_short u ≡ false
  run_long bare run = not_short (run_from_bare E bare run)

  pub read_is : {t u v : Two} {hs : List Happened} {s : Store} {span : Token} {a : Answered} {bytes : List ℕ} → AllBare E t → PacketRun E t hs u
      → PacketPromise E (Read s span) u v a → contents span (shelf s hs []) ≡ some bytes → a ≡ shows bytes
  read_is {s = s} {span} bare run p c =
      read_answer (run_long bare run) p ∙ ap shows (shown refl (length_case E (store_stands E bare run s) span) c)

  pub read_none : {t u v : Two} {hs : List Happened} {s : Store} {span : Token} {a : Answered} → AllBare E t → PacketRun E t hs u
      → PacketPromise E (Read s span) u v a → contents span (shelf s hs []) ≡ none → a ≡ shows []
  read_none {s = s} {span} bare run p c =
      read_answer (run_long bare run) p ∙ ap shows (not_shown refl (length_case E (store_stands E bare run s) span) c)

  pub length_is_told : {t u v : Two} {hs : List Happened} {s : Store} {span : Token} {a : Answered} {bytes : List ℕ} → AllBare E t → PacketRun E t hs u
      → PacketPromise E (LengthOf s span) u v a → contents span (shelf s hs []) ≡ some bytes → a ≡ plain (length_is (length bytes))
  length_is_told {s = s} {span} bare run p c =
      length_answer (run_long bare run) p ∙ ap plain (length_told (length_case E (store_stands E bare run s) span) c)

  pub length_none : {t u v : Two} {hs : List Happened} {s : Store} {span : Token} {a : Answered} → AllBare E t → PacketRun E t hs u
      → PacketPromise E (LengthOf s span) u v a → contents span (shelf s hs []) ≡ none → CannotBeRead (at s u) a
  length_none {u = u} {s = s} {span} bare run p c =
      subst (CannotBeRead (at s u)) (sym (length_answer (run_long bare run) p)) (length_not_told (length_case E (store_stands E bare run s) span) c)

  pub fill_done : {t u v : Two} {hs : List Happened} {s : Store} {span : Token} {new : List ℕ} {a : Answered} {bytes : List ℕ} → AllBare E t
      → PacketRun E t hs u → PacketPromise E (Fill s span new) u v a → contents span (shelf s hs []) ≡ some bytes → length new ≤ length bytes
      → a ≡ plain done
  fill_done {s = s} {span} {new} bare run p c h =
      fill_answer (run_long bare run) p ∙ ap plain (fill_ends_done (fill_case E (store_stands E bare run s) span new) c h)

  pub fill_17 : {t u v : Two} {hs : List Happened} {s : Store} {span : Token} {new : List ℕ} {a : Answered} {bytes : List ℕ} → AllBare E t
      → PacketRun E t hs u → PacketPromise E (Fill s span new) u v a → contents span (shelf s hs []) ≡ some bytes → length bytes < length new
      → a ≡ plain (refused 17)
  fill_17 {s = s} {span} {new} bare run p c h =
      fill_answer (run_long bare run) p ∙ ap plain (fill_ends_17 (fill_case E (store_stands E bare run s) span new) c h)

  pub fill_none : {t u v : Two} {hs : List Happened} {s : Store} {span : Token} {new : List ℕ} {a : Answered} → AllBare E t
      → PacketRun E t hs u → PacketPromise E (Fill s span new) u v a → contents span (shelf s hs []) ≡ none → CannotBeRead (at s u) a
  fill_none {u = u} {s = s} {span} {new} bare run p c =
      subst (CannotBeRead (at s u)) (sym (fill_answer (run_long bare run) p)) (fill_ends_none (fill_case E (store_stands E bare run s) span new) c)

  pub back_done : {t u v : Two} {hs : List Happened} {s : Store} {span : Token} {a : Answered} {bytes : List ℕ} → AllBare E t → PacketRun E t hs u
      → PacketPromise E (HandBack s span) u v a → contents span (shelf s hs []) ≡ some bytes → a ≡ plain done
  back_done {s = s} {span} bare run p c =
      back_answer (run_long bare run) p ∙ ap plain (back_ends_done (back_case E (store_stands E bare run s) span) c)

  pub back_none : {t u v : Two} {hs : List Happened} {s : Store} {span : Token} {a : Answered} → AllBare E t → PacketRun E t hs u
      → PacketPromise E (HandBack s span) u v a → contents span (shelf s hs []) ≡ none → CannotBeRead (at s u) a
  back_none {u = u} {s = s} {span} bare run p c =
      subst (CannotBeRead (at s u)) (sym (back_answer (run_long bare run) p)) (back_ends_none (back_case E (store_stands E bare run s) span) c)

  -- no call gives 9
  pub never_9 : {t u v : Two} {hs : List Happened} {c : PacketCall} {a : Answered} → AllBare E t → PacketRun E t hs u
      → PacketPromise E c u v a → a ≢ plain (refused 9)
  never_9 bare run p = (promise_follows E (run_from_bare E bare run) p).not_nine
