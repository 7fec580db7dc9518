-- What the audit says where one of its parts says no, and where each says yes, shut out by its gate or let in: the parts of the code joined.
-- Assumes nothing.
use mathlib.Core.Path.{◌≡◌, ap, sym, ◌∙◌}
use mathlib.Core.Bool.{Bool, true, false}
use mathlib.Core.List.{List}
use Prim.Native.Nat.{ℕ, ◌+◌, ◌≤◌, ◌<◌}
use lib.ListN.{length}
use borrow.Author.Tests.{lt-ltb, le-ltb}
use Rattle.ledger.specs.Ledger.{Answer, refused}
use Rattle.tables.specs.Words.{Words, Edition}
use Rattle.tables.specs.Gate.{gate_of}
use Rattle.tables.proofs.Gate.{gated_open, gated_shut}
use Rattle.audit_words.specs.declared.Walk.{Walk}
use Rattle.audit_words.specs.Scratch.{cleared}
use Rattle.audit_words.specs.Spares.{mark_from}
use Rattle.audit_words.specs.Chain.{first_record, walk_from, started, walk_ends}
use Rattle.audit_words.specs.Lists.{lists_from}
use Rattle.audit_words.specs.Bits.{bits_agree}
use Rattle.audit_words.specs.Audit.{chain_walk, end_is_sound, records_are_sound, pile_is_sound, words_are_sound, verdict, behind_gate, audit_words}
use Rattle.audit_words.proofs.Cleared.{cleared_twice}

-- ---- chain, lists and bits
pub chain_walked : (E : Edition) (w : Words) (marks : List ℕ) {first : ℕ} {end : Walk} → first ≡ first_record E w.count w.nodes marks 0
    → end ≡ walk_from w.count w.nodes marks w.count w.size (started E first) → end ≡ chain_walk E w marks
unfolding chain_walk
chain_walked E w marks f e = e ∙ ap (λ (r : ℕ). walk_from w.count w.nodes marks w.count w.size (started E r)) f

module _ (E : Edition) (w : Words) (marks : List ℕ) (end : Walk) (walked : end ≡ chain_walk E w marks) where
  by_end : records_are_sound E w marks ≡ end_is_sound E w marks end
  unfolding records_are_sound
  by_end = ap (end_is_sound E w marks) (sym walked)

  pub chain_refused : walk_ends E w.size w.count w.free_storage (w.free_offset + 1) end ≡ false → records_are_sound E w marks ≡ false
  unfolding end_is_sound
  chain_refused e = by_end ∙ rw e

  pub lists_refused : walk_ends E w.size w.count w.free_storage (w.free_offset + 1) end ≡ true
      → lists_from E 256 w.nodes marks w.bin_indices w.count end.frees 0 0 ≡ false → records_are_sound E w marks ≡ false
  unfolding end_is_sound
  lists_refused e l = by_end ∙ rw (e, l)

  pub bits_decide : walk_ends E w.size w.count w.free_storage (w.free_offset + 1) end ≡ true
      → lists_from E 256 w.nodes marks w.bin_indices w.count end.frees 0 0 ≡ true
      → records_are_sound E w marks ≡ bits_agree E w.bin_indices w.used_bins w.used_bins_top
  unfolding end_is_sound
  bits_decide e l = by_end ∙ rw (e, l)

-- ---- the pile before them
module _ (E : Edition) (w : Words) (scratch : List ℕ) where
  pub no_room : w.count ≤ w.free_offset + 1 → words_are_sound E w scratch ≡ false
  unfolding words_are_sound
  no_room l = rw (le-ltb _ _ l)

  pub pile_refused : w.free_offset + 1 < w.count → (mark_from (w.free_offset + 1) w.nodes w.pile w.count 0 scratch).fine ≡ false
      → words_are_sound E w scratch ≡ false
  unfolding words_are_sound pile_is_sound
  pile_refused l f = rw (lt-ltb _ _ l, f)

  pub records_decide : w.free_offset + 1 < w.count → (mark_from (w.free_offset + 1) w.nodes w.pile w.count 0 scratch).fine ≡ true
      → words_are_sound E w scratch ≡ records_are_sound E w (mark_from (w.free_offset + 1) w.nodes w.pile w.count 0 scratch).marks
  unfolding words_are_sound pile_is_sound
  records_decide l f = rw (lt-ltb _ _ l, f)

  -- ---- behind the gate
  pub scratch_short : length scratch < w.count → (refused 2, scratch) ≡ behind_gate E w scratch
  unfolding behind_gate
  scratch_short l = rw (lt-ltb _ _ l)

  -- cleared, tested, and cleared again
  pub tested : {a : Answer} {b : Bool} {clear left : List ℕ} (after : List ℕ) → w.count ≤ length scratch → clear ≡ cleared w.count scratch
      → b ≡ words_are_sound E w clear → cleared w.count after ≡ cleared w.count clear → left ≡ cleared w.count after → a ≡ verdict b
      → (a, left) ≡ behind_gate E w scratch
  unfolding behind_gate
  tested {a} {left = left} after l c s k f v =
      let answer : a ≡ verdict (words_are_sound E w (cleared w.count scratch)) = v ∙ ap verdict (s ∙ ap (words_are_sound E w) c) in
      let words : left ≡ cleared w.count scratch = f ∙ k ∙ ap (cleared w.count) c ∙ cleared_twice w.count scratch l in
      rw (le-ltb _ _ l) (λ i. (answer i, words i))

  -- ---- before all: shut out by the gate, or let in
  pub audit_shut : {k : ℕ} → 1 ≤ k → gate_of E w ≡ k → (refused k, scratch) ≡ audit_words E w scratch
  unfolding audit_words
  audit_shut {k} h e = sym (gated_shut (gate_of E w) k scratch (behind_gate E w scratch) h e)

  pub audit_let_in : {o : Answer × List ℕ} → gate_of E w ≡ 0 → o ≡ behind_gate E w scratch → o ≡ audit_words E w scratch
  unfolding audit_words
  audit_let_in g e = e ∙ sym (gated_open (gate_of E w) scratch (behind_gate E w scratch) g)
