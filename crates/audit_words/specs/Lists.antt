-- "each class list holds exactly the free regions of its class, links agreeing both ways": each member is a free region of the class, and
-- all lists together have as many members as there are free regions. Assumes nothing.
use Rattle.std.specs.Prelude.{Bool, ◌&&◌, cond, List, ℕ, zero, suc, ◌+◌, ◌-◌, ltb, eqb, get_or}
use Rattle.small_float.specs.Class.{down}
use Rattle.tables.specs.Layout.{data_size, bin_prev, bin_next, used, word}
use Rattle.tables.specs.Words.{Edition}
use Rattle.audit_words.specs.declared.Along.{Along}

-- ---- one member of class c's list
unfoldable pub good_member : (nodes marks : List ℕ) → (count c : ℕ) → Along → Bool
unfolding down
good_member nodes marks count c m =
    -- a record below the count, and not spare
    ltb m.here count
    && eqb (get_or marks m.here 0) 0
    -- "links agreeing both ways": it links back to the one by which it was reached
    && eqb (word nodes bin_prev m.here) m.prev
    -- "the free regions of its class": not live, and of the list's class
    && eqb (word nodes used m.here) 0
    && eqb (down (word nodes data_size m.here)) c

unfoldable pub next_member : (nodes : List ℕ) → Along → Along
next_member nodes m = record { prev = m.here; here = word nodes bin_next m.here; listed = m.listed + 1 }

-- ---- one list: at most k members on, as far as they are good
unfoldable pub list_from : ℕ → (nodes marks : List ℕ) → (count c : ℕ) → Along → Along
unfolding good_member next_member
list_from zero nodes marks count c m = m
list_from (suc k) nodes marks count c m =
    cond (good_member nodes marks count c m) (list_from k nodes marks count c (next_member nodes m)) m

-- before the first member of class c's list
abbrev pub at_head : Edition → (heads : List ℕ) → (c listed : ℕ) → Along
at_head E heads c listed = record { prev = E.none; here = get_or heads c 0; listed = listed }

-- ---- all lists
-- where a list has come to its end, the next one; a walk that stopped before the end is refused
unfoldable pub ended : Edition → Along → (ℕ → Bool) → Bool
ended E m further = eqb m.here E.none && further m.listed

-- k lists from class c on, `listed` members having been met; there are `frees` free regions
unfoldable pub lists_from : Edition → ℕ → (nodes marks heads : List ℕ) → (count frees c listed : ℕ) → Bool
unfolding ended list_from
lists_from E zero nodes marks heads count frees c listed = eqb listed frees
lists_from E (suc k) nodes marks heads count frees c listed =
    ended E (list_from (frees - listed) nodes marks count c (at_head E heads c listed))
    (lists_from E k nodes marks heads count frees (c + 1))
