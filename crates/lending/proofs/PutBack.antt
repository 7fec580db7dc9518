-- What a call in place promises of scalars that were read from an array, it promises of the array into which they are put back. Assumes nothing.
use mathlib.Core.Path.{◌≡◌, sym, ap, subst, ◌∙◌}
use mathlib.Core.List.{List}
use Prim.Native.Nat.{ℕ}
use Rattle.ledger.specs.Ledger.{Answer}
use Rattle.ledger.specs.Calls.{Call}
use Rattle.tables.specs.Words.{Words, Edition}
use Rattle.tables.specs.Promise.{Promise}
use Rattle.tables.proofs.NotWritten.{not_written}
use Rattle.records.specs.declared.totals.Totals.{Totals}
use Rattle.records.specs.InWords.{scalars, words_of, of_array, put_back}

module _ {E : Edition} {c : Call} {t u : Totals} {a : Answer} (before after hs ls ns ps gs ks ms qs : List ℕ) where
  pub is_put_back : t ≡ of_array before → after ≡ put_back u before → Promise E c (words_of t hs ls ns ps) (words_of u gs ks ms qs) a
      → Promise E c (words_of (of_array before) hs ls ns ps) (words_of (of_array after) gs ks ms qs) a
  is_put_back read put p =
      let kept = not_written E c (words_of t hs ls ns ps) in
      -- no call changes the size and the count, so those that stand in the array are right
      let size_is : u.size ≡ (of_array before).size =
      ap (λ (x : Answer × Words). x.1.size) p.exact ∙ kept.size_is ∙ ap (λ (s : Totals). s.size) read in
      let count_is : u.max_allocs ≡ (of_array before).max_allocs =
      ap (λ (x : Answer × Words). x.1.count) p.exact ∙ kept.count_is ∙ ap (λ (s : Totals). s.max_allocs) read in
      let whole : u ≡ of_array (put_back u before) = λ i. scalars (size_is i) (count_is i) u.free_storage u.free_offset u.used_bins_top in
      let left : u ≡ of_array after = whole ∙ sym (ap of_array put) in
      subst (λ (s : Totals). Promise E c (words_of (of_array before) hs ls ns ps) (words_of s gs ks ms qs) a) left
      (subst (λ (s : Totals). Promise E c (words_of s hs ls ns ps) (words_of u gs ks ms qs) a) read p)
