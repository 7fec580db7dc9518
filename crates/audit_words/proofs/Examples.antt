-- The audit computed: yes after a setup and after some calls, no on words spoilt in one place each, two of which a call does not mind.
-- Assumes nothing.
use mathlib.Core.Path.{◌≡◌, refl}
use mathlib.Core.List.{List, [], ◌∷◌, ◌++◌}
use Prim.Native.Nat.{ℕ}
use lib.ListN.{replicate}
use Rattle.ledger.specs.Ledger.{Answer, done, granted, refused}
use Rattle.ledger.specs.Calls.{takes, gives_back, end}
use Rattle.tables.specs.Layout.{neighbor_next, used, put, put_link, word}
use Rattle.tables.specs.Words.{Words, with_nodes, with_total, with_lists, words_from}
use Rattle.tables.specs.Steps.{insert, insert_at, insert_nodes, join_nodes, unlink, unlink_at, pop_pile, push_pile}
use Rattle.tables.specs.Setup.{tables_alone, setup_words}
use Rattle.tables.specs.Calls.{edition32, answer_words}
use Rattle.small_float.specs.Class.{rounded_up}
use Rattle.audit_words.specs.Audit.{audit_words}

-- a store of 100 units and 5 records
fresh : Words
unfolding setup_words insert insert_at insert_nodes join_nodes pop_pile put put_link word
fresh = (setup_words edition32 100 5 (tables_alone (replicate 40 7) (replicate 5 9))).1

-- a free region of 20 units, a live one of 30, and a free one of 50
cut_up : Words
unfolding fresh end answer_words insert insert_at insert_nodes join_nodes unlink unlink_at pop_pile push_pile put put_link word
cut_up = end (answer_words edition32) (takes 20 ∷ takes 30 ∷ gives_back 0 0 ∷ []) fresh

-- the audit with a scratch of one word too many, in which anything stands
audited : Words → Answer × List ℕ
unfolding audit_words
audited w = audit_words edition32 w (3 ∷ 1 ∷ 4 ∷ 1 ∷ 5 ∷ 9 ∷ [])

-- what is left in that scratch
left : List ℕ
left = 0 ∷ 0 ∷ 0 ∷ 0 ∷ 0 ∷ 9 ∷ []

fresh_yes : audited fresh ≡ (done, left)
unfolding audited fresh left word
fresh_yes = refl

cut_up_yes : audited cut_up ≡ (done, left)
unfolding audited cut_up left word rounded_up lib.Count.count_trailing_zeros
cut_up_yes = refl

-- ---- spoilt
total_off : audited (with_total cut_up 71) ≡ (refused 6, left)
unfolding audited cut_up left word rounded_up lib.Count.count_trailing_zeros
total_off = refl

-- record 1, the live one, marked free: three free in a row
two_free : audited (with_nodes cut_up (put 1 used 0 cut_up.nodes)) ≡ (refused 6, left)
unfolding audited cut_up left word put rounded_up lib.Count.count_trailing_zeros
two_free = refl

-- record 4, a spare one, marked live
spare_live : audited (with_nodes cut_up (put 4 used 1 cut_up.nodes)) ≡ (refused 6, left)
unfolding audited cut_up left word put rounded_up lib.Count.count_trailing_zeros
spare_live = refl

-- record 0's chain goes round
circular_chain : audited (with_nodes cut_up (put 1 neighbor_next 0 cut_up.nodes)) ≡ (refused 6, left)
unfolding audited cut_up left word put rounded_up lib.Count.count_trailing_zeros
circular_chain = refl

-- ---- where the audit asks more than a call: one live region of 5 units under record 1, record 0 spare, and `link` for the record before it
one_live : ℕ → Words
one_live link =
    words_from 5 2 0 0 0 (replicate 32 0) (replicate 256 edition32.none)
    (replicate 8 0 ++ (0 ∷ 5 ∷ edition32.none ∷ edition32.none ∷ link ∷ edition32.none ∷ 1 ∷ 0 ∷ []))
    (replicate 2 0)

marked_absent : (audited (one_live edition32.none)).0 ≡ done
unfolding audited one_live word
marked_absent = refl

-- a call reads the link 2 as absent, and hands the region back; to the audit it is no absent link
link_handed_back : (answer_words edition32 (gives_back 0 1) (one_live 2)).0 ≡ done
unfolding one_live answer_words word
link_handed_back = refl

link_beyond_the_count : (audited (one_live 2)).0 ≡ refused 6
unfolding audited one_live word
link_beyond_the_count = refl

-- the fresh store with its leaf byte and no top bit over it: a take of that class is granted, and the audit says no
no_top_bit : Words
unfolding fresh
no_top_bit = with_lists fresh 0 fresh.used_bins fresh.bin_indices fresh.nodes

granted_without_top_bit : (answer_words edition32 (takes 96) no_top_bit).0 ≡ granted 0 0
unfolding no_top_bit answer_words word rounded_up lib.Count.count_trailing_zeros
granted_without_top_bit = refl

top_bit_asked_for : audited no_top_bit ≡ (refused 6, left)
unfolding audited no_top_bit left word
top_bit_asked_for = refl
