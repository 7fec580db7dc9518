-- What a call promises of scalars that were read from an array, and of those that it leaves, it promises of the arrays. Assumes nothing.
use mathlib.Core.Path.{◌≡◌, sym, ap, subst}
use mathlib.Core.List.{List}
use Prim.Native.Nat.{ℕ}
use Rattle.ledger.specs.Ledger.{Answer}
use Rattle.ledger.specs.Calls.{Call}
use Rattle.tables.specs.Words.{Words, Edition}
use Rattle.tables.specs.Setup.{Lent}
use Rattle.tables.specs.Promise.{Promise, SetupPromise}
use Rattle.records.specs.declared.totals.Totals.{Totals}
use Rattle.records.specs.InWords.{words_of, in_array, of_array}
use Rattle.host_values.specs.Kept.{words_in}

-- scalars that were kept in an array are those in it
pub in_it : {t : Totals} {after : List ℕ} → after ≡ in_array t → t ≡ of_array after
in_it e = sym (ap of_array e)

-- what a setup leaves
pub setup_kept : {E : Edition} {size count : ℕ} {lent : Lent} {u : Totals} {after : List ℕ} {a : Answer} (hs ls ns ps : List ℕ) → after ≡ in_array u
    → SetupPromise E size count lent (words_of u hs ls ns ps) a → SetupPromise E size count lent (words_in after hs ls ns ps) a
setup_kept {E = E} {size = size} {count = count} {lent = lent} {a = a} hs ls ns ps put p =
    subst (λ (s : Totals). SetupPromise E size count lent (words_of s hs ls ns ps) a) (in_it put) p

module _ {E : Edition} {c : Call} {t : Totals} {a : Answer} (before hs ls ns ps : List ℕ) where
  -- what any other call finds and leaves
  pub call_kept : {u : Totals} {after : List ℕ} (gs ks ms qs : List ℕ) → t ≡ of_array before → after ≡ in_array u
      → Promise E c (words_of t hs ls ns ps) (words_of u gs ks ms qs) a → Promise E c (words_in before hs ls ns ps) (words_in after gs ks ms qs) a
  call_kept {u = u} gs ks ms qs read put p =
      subst (λ (s : Totals). Promise E c (words_in before hs ls ns ps) (words_of s gs ks ms qs) a) (in_it put)
      (subst (λ (s : Totals). Promise E c (words_of s hs ls ns ps) (words_of u gs ks ms qs) a) read p)

  -- what a question finds, which stays
  pub asked_read : t ≡ of_array before → Promise E c (words_of t hs ls ns ps) (words_of t hs ls ns ps) a
      → Promise E c (words_in before hs ls ns ps) (words_in before hs ls ns ps) a
  asked_read read p = subst (λ (s : Totals). Promise E c (words_of s hs ls ns ps) (words_of s hs ls ns ps) a) read p

-- the same of words that were put together elsewhere
module _ {E : Edition} {a : Answer} {w x v y : Words} where
  pub call_moved : {c : Call} → w ≡ x → v ≡ y → Promise E c w v a → Promise E c x y a
  call_moved {c = c} found left p = subst (λ (u : Words). Promise E c x u a) left (subst (λ (u : Words). Promise E c u v a) found p)

pub setup_moved : {E : Edition} {size count : ℕ} {lent : Lent} {v y : Words} {a : Answer} → v ≡ y → SetupPromise E size count lent v a
    → SetupPromise E size count lent y a
setup_moved {E = E} {size = size} {count = count} {lent = lent} {a = a} left p = subst (λ (u : Words). SetupPromise E size count lent u a) left p
