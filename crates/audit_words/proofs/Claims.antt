-- All that specs/Claims.antt claims of the audit. Assumes nothing.
use mathlib.Core.Path.{◌≡◌, refl, ap, sym, ◌∙◌}
use mathlib.Core.Logic.{◌↔◌, ◌⊎◌, inl, inr}
use mathlib.Core.Bool.{Bool, true, false}
use mathlib.Core.List.{List, [], ◌∷◌}
use Prim.Native.Nat.{ℕ, ◌≤◌, ◌<◌}
use native.Mathlib.Omega.{arith}
use lib.ListN.{length, get_or}
use Rattle.basics.proofs.Decided.{Below, below, beyond, below?}
use Rattle.basics.proofs.Clash.{clash}
use Rattle.ledger.specs.Ledger.{Ledger, Answer, done, refused, setup, by_class, Stacks}
use Rattle.ledger.specs.Calls.{Call, end}
use Rattle.ledger.proofs.Records.{all_records}
use Rattle.ledger.proofs.CallsWell.{setup_well, call_well}
use Rattle.ledger.proofs.ByClass.{class_laws}
use Rattle.tables.specs.Words.{Words, Edition, with_tables}
use Rattle.tables.specs.Gate.{gate_of, gated}
use Rattle.tables.specs.Setup.{Lent, setup_words}
use Rattle.tables.specs.Calls.{answer_words}
use Rattle.tables.specs.Sound.{Sound}
use Rattle.tables.specs.Layout.{nodes_needed, pile_needed}
use Rattle.tables.specs.Reach.{AgreeOn, Agree}
use Rattle.tables.specs.Claims.{BadCount}
use Rattle.tables.proofs.Agreeing.{by_tables}
use Rattle.tables.proofs.Gate.{Gated, bad_count, too_short, open_gate, gated?, room_not_bad, room_not_short, short_not_bad}
use Rattle.tables.proofs.SoundOf.{room_of}
use Rattle.tables.proofs.SetupSound.{setup_sound}
use Rattle.tables.proofs.Refusals.{setup_done}
use Rattle.tables.proofs.Kept.{question_kept}
use Rattle.tables.proofs.OverRuns.{call_sound}
use Rattle.audit_words.specs.Scratch.{cleared}
use Rattle.audit_words.specs.Audit.{words_are_sound, verdict, behind_gate, audit_words}
use Rattle.tables.specs.Room.{OfHead}
use Rattle.audit_words.specs.Claims.{SomeLedger, AuditRoom, AuditShort, Claims}
use Rattle.audit_words.proofs.Cleared.{cleared_length, cleared_low, cleared_high, none_marked}
use Rattle.audit_words.proofs.Unread.{tests_same}
use Rattle.audit_words.proofs.YesSound.{yes_sound}
use Rattle.audit_words.proofs.SoundYes.{sound_yes}

-- ---- the audit by cases: shut out by the count, by a length, or let in to the tests
data Audited (E : Edition) (w : Words) (scratch : List ℕ) : Type 0 where
  by_count : BadCount E w.count → audit_words E w scratch ≡ (refused 6, scratch) → Audited E w scratch
  by_length : AuditShort E w scratch → audit_words E w scratch ≡ (refused 2, scratch) → Audited E w scratch
  tested : AuditRoom E w scratch
      → audit_words E w scratch ≡ (verdict (words_are_sound E w (cleared w.count scratch)), cleared w.count scratch)
      → Audited E w scratch

audited? : (E : Edition) (w : Words) (scratch : List ℕ) → Audited E w scratch
unfolding audit_words gated gate_of behind_gate
audited? E w scratch =
    go (gated? E 6 w.count (length w.nodes) (length w.pile)) (below? (length scratch) w.count)
  where
    go : Gated E 6 w.count (length w.nodes) (length w.pile) → Below (length scratch) w.count → Audited E w scratch
    go (bad_count h e) b = by_count h (rw e)
    go (too_short h e) b = by_length (inl h) (rw e)
    go (open_gate h e) (below l t) = by_length (inr (h, l)) (rw (e, t))
    go (open_gate h e) (beyond l t) = tested record { tables_room = h; scratch_room = l } (rw (e, t))

module _ (E : Edition) (w : Words) (scratch : List ℕ) where
  answer_is : {a : Answer} {s : List ℕ} → audit_words E w scratch ≡ (a, s) → (audit_words E w scratch).0 ≡ a
  answer_is e = ap (λ (p : Answer × List ℕ). p.0) e

  scratch_is : {a : Answer} {s : List ℕ} → audit_words E w scratch ≡ (a, s) → (audit_words E w scratch).1 ≡ s
  scratch_is e = ap (λ (p : Answer × List ℕ). p.1) e

  -- the three are apart
  short_not_count : AuditShort E w scratch → BadCount E w.count → ⊥
  short_not_count (inl s) b = short_not_bad E w.count (length w.nodes) (length w.pile) s b
  short_not_count (inr s) b = room_not_bad E w.count (length w.nodes) (length w.pile) s.0 b

  room_not_count : AuditRoom E w scratch → BadCount E w.count → ⊥
  room_not_count r b = room_not_bad E w.count (length w.nodes) (length w.pile) r.tables_room b

  room_long : AuditRoom E w scratch → AuditShort E w scratch → ⊥
  room_long r (inl s) = room_not_short E w.count (length w.nodes) (length w.pile) r.tables_room s
  room_long r (inr s) = omega (arith, r.scratch_room, s.1)

  -- ---- so each case is known by its cause
  pub at_bad_count : BadCount E w.count → audit_words E w scratch ≡ (refused 6, scratch)
  at_bad_count b = elim (audited? E w scratch) [
    | by_count h e ↦ e
    | by_length h e ↦ absurd (short_not_count h b)
    | tested h e ↦ absurd (room_not_count h b)
  ]

  pub at_short : AuditShort E w scratch → audit_words E w scratch ≡ (refused 2, scratch)
  at_short s = elim (audited? E w scratch) [
    | by_count h e ↦ absurd (short_not_count s h)
    | by_length h e ↦ e
    | tested h e ↦ absurd (room_long h s)
  ]

  at_room : AuditRoom E w scratch
      → audit_words E w scratch ≡ (verdict (words_are_sound E w (cleared w.count scratch)), cleared w.count scratch)
  at_room r = elim (audited? E w scratch) [
    | by_count h e ↦ absurd (room_not_count r h)
    | by_length h e ↦ absurd (room_long r h)
    | tested h e ↦ e
  ]

  -- ---- the verdict
  -- 2 is never the verdict; yes is, exactly where the tests say so
  never_2 : (t : Bool) → verdict t ≡ refused 2 → ⊥
  unfolding verdict
  never_2 true e = clash (cc)
  never_2 false e = let z : ◌≡◌ {A = ℕ} 6 2 = cc in omega arith

  said_yes : (t : Bool) → verdict t ≡ done → t ≡ true
  unfolding verdict
  said_yes true e = refl
  said_yes false e = clash (cc)

  said_no : (t : Bool) → verdict t ≡ refused 6 → t ≡ false
  unfolding verdict
  said_no true e = clash (cc)
  said_no false e = refl

  -- the tests say yes exactly if some ledger stands in the words
  module _ (H : OfHead E w) (r : AuditRoom E w scratch) where
    found_ledger : words_are_sound E w (cleared w.count scratch) ≡ true → SomeLedger E w
    found_ledger = yes_sound E w r.tables_room H (cleared w.count scratch)
        (none_marked w.nodes w.pile w.count scratch r.scratch_room)

    found_none : words_are_sound E w (cleared w.count scratch) ≡ false → ¬ SomeLedger E w
    found_none e s =
        let yes-there = sound_yes E w s.0 s.1 (cleared w.count scratch)
        (none_marked w.nodes w.pile w.count scratch r.scratch_room) in
        clash (cc)

  pub sound_audited : (l : Ledger Stacks) → Sound E w l → w.count ≤ length scratch → audit_words E w scratch ≡ (done, cleared w.count scratch)
  unfolding verdict
  sound_audited l S h =
      at_room record { tables_room = room_of E w l S; scratch_room = h }
      ∙ rw (sound_yes E w l S (cleared w.count scratch) (none_marked w.nodes w.pile w.count scratch h))

  pub done_exactly : OfHead E w → ((audit_words E w scratch).0 ≡ done) ↔ (AuditRoom E w scratch × SomeLedger E w)
  done_exactly H = (to, λ p. answer_is (sound_audited p.1.0 p.1.1 p.0.scratch_room))
    where
      to : (audit_words E w scratch).0 ≡ done → AuditRoom E w scratch × SomeLedger E w
      to d = elim (audited? E w scratch) [
        | by_count h e ↦ clash (let z : refused 6 ≡ done = sym (answer_is e) ∙ d in cc)
        | by_length h e ↦ clash (let z : refused 2 ≡ done = sym (answer_is e) ∙ d in cc)
        | tested h e ↦ (h, found_ledger H h (said_yes _ (sym (answer_is e) ∙ d)))
      ]

  pub short_exactly : ((audit_words E w scratch).0 ≡ refused 2) ↔ AuditShort E w scratch
  short_exactly = (to, λ s. answer_is (at_short s))
    where
      to : (audit_words E w scratch).0 ≡ refused 2 → AuditShort E w scratch
      to d = elim (audited? E w scratch) [
        | by_count h e ↦ absurd (let z : refused 6 ≡ refused 2 = sym (answer_is e) ∙ d in let n : ◌≡◌ {A = ℕ} 6 2 = cc in omega arith)
        | by_length h e ↦ h
        | tested h e ↦ absurd (never_2 _ (sym (answer_is e) ∙ d))
      ]

  pub unsound_exactly : OfHead E w
      → ((audit_words E w scratch).0 ≡ refused 6) ↔ (BadCount E w.count ⊎ (AuditRoom E w scratch × ¬ SomeLedger E w))
  unsound_exactly H = (to, back)
    where
      to : (audit_words E w scratch).0 ≡ refused 6 → BadCount E w.count ⊎ (AuditRoom E w scratch × ¬ SomeLedger E w)
      to d = elim (audited? E w scratch) [
        | by_count h e ↦ inl h
        | by_length h e ↦ absurd (let z : refused 2 ≡ refused 6 = sym (answer_is e) ∙ d in let n : ◌≡◌ {A = ℕ} 2 6 = cc in omega arith)
        | tested h e ↦ inr (h, found_none H h (said_no _ (sym (answer_is e) ∙ d)))
      ]

      no_ledger : AuditRoom E w scratch → ¬ SomeLedger E w → (t : Bool) → words_are_sound E w (cleared w.count scratch) ≡ t
          → t ≡ false
      no_ledger r n true e = absurd (n (found_ledger H r e))
      no_ledger r n false e = refl

      back : BadCount E w.count ⊎ (AuditRoom E w scratch × ¬ SomeLedger E w) → (audit_words E w scratch).0 ≡ refused 6
      back (inl b) = answer_is (at_bad_count b)
      back (inr p) = answer_is (at_room p.0) ∙ rw (no_ledger p.0 p.1 _ refl) (unfold verdict in refl)

  pub one_of_three : ((audit_words E w scratch).0 ≡ done) ⊎ (((audit_words E w scratch).0 ≡ refused 2) ⊎ ((audit_words E w scratch).0 ≡ refused 6))
  unfolding verdict
  one_of_three = elim (audited? E w scratch) [
    | by_count h e ↦ inr (inr (answer_is e))
    | by_length h e ↦ inr (inl (answer_is e))
    | tested h e ↦ go (words_are_sound E w (cleared w.count scratch)) (answer_is e)
  ]
    where
      go : (t : Bool) → (audit_words E w scratch).0 ≡ verdict t
          → ((audit_words E w scratch).0 ≡ done) ⊎ (((audit_words E w scratch).0 ≡ refused 2) ⊎ ((audit_words E w scratch).0 ≡ refused 6))
      go true e = inl e
      go false e = inr (inr e)

  -- ---- the scratch
  pub same_length : length (audit_words E w scratch).1 ≡ length scratch
  same_length = elim (audited? E w scratch) [
    | by_count h e ↦ ap (length {A = ℕ}) (scratch_is e)
    | by_length h e ↦ ap (length {A = ℕ}) (scratch_is e)
    | tested h e ↦ ap (length {A = ℕ}) (scratch_is e) ∙ cleared_length w.count scratch
  ]

  pub zero_low : AuditRoom E w scratch → (i : ℕ) → i < w.count → get_or (audit_words E w scratch).1 i 0 ≡ 0
  zero_low r i l = ap (λ (s : List ℕ). get_or s i 0) (scratch_is (at_room r)) ∙ cleared_low w.count scratch i r.scratch_room l

  pub same_beyond : (i : ℕ) → w.count ≤ i → get_or (audit_words E w scratch).1 i 0 ≡ get_or scratch i 0
  same_beyond i l = elim (audited? E w scratch) [
    | by_count h e ↦ ap (λ (s : List ℕ). get_or s i 0) (scratch_is e)
    | by_length h e ↦ ap (λ (s : List ℕ). get_or s i 0) (scratch_is e)
    | tested h e ↦ ap (λ (s : List ℕ). get_or s i 0) (scratch_is e) ∙ cleared_high w.count scratch i l
  ]

-- ---- what stands beyond the lengths makes no difference, nor what stood in the scratch
cleared_agree : (n : ℕ) (scratch other : List ℕ) → n ≤ length scratch → n ≤ length other → AgreeOn n (cleared n scratch) (cleared n other)
cleared_agree n scratch other a b = record {
  long = rw cleared_length a;
  long_too = rw cleared_length b;
  same = λ i l. cleared_low n scratch i a l ∙ sym (cleared_low n other i b l);
}

-- two audits with one answer, whose scratches agree
abbrev Alike : ℕ → (x y : Answer × List ℕ) → Type 0
Alike n x y = (x.0 ≡ y.0) × AgreeOn n x.1 y.1

audits_alike : (E : Edition) (w : Words) (nodes pile scratch other : List ℕ) → AgreeOn (nodes_needed w.count) w.nodes nodes
    → AgreeOn (pile_needed w.count) w.pile pile → AuditRoom E w scratch → w.count ≤ length other
    → Alike w.count (audit_words E w scratch) (audit_words E (with_tables w nodes pile) other)
audits_alike E w nodes pile scratch other N P r b =
    let room : AuditRoom E (with_tables w nodes pile) other = record {
      tables_room = record {
        count_low = r.tables_room.count_low;
        count_high = r.tables_room.count_high;
        nodes_room = N.long_too;
        pile_room = P.long_too;
      };
      scratch_room = b;
    } in
    let clear = cleared_agree w.count scratch other r.scratch_room b in
    rw (at_room E w scratch r, at_room E (with_tables w nodes pile) other room)
    (ap verdict (tests_same E w nodes pile N P (cleared w.count scratch) (cleared w.count other) clear), clear)

unread : (E : Edition) (w v : Words) (scratch other : List ℕ) → Agree w.count w v → AuditRoom E w scratch → w.count ≤ length other
    → Alike w.count (audit_words E w scratch) (audit_words E v other)
unread E w v scratch other A r b =
    by_tables w.count A (λ (u : Words). Alike w.count (audit_words E w scratch) (audit_words E u other))
    (audits_alike E w v.nodes v.pile scratch other A.nodes_is A.pile_is r b)

same_answer : (E : Edition) (w : Words) (scratch other : List ℕ) → w.count ≤ length scratch → w.count ≤ length other
    → (audit_words E w scratch).0 ≡ (audit_words E w other).0
same_answer E w scratch other a b = elim (audited? E w scratch) [
  | by_count h e ↦ answer_is E w scratch e ∙ sym (answer_is E w other (at_bad_count E w other h))
  | by_length h e ↦ answer_is E w scratch e ∙ sym (answer_is E w other (at_short E w other (short h)))
  | tested h e ↦ (audits_alike E w w.nodes w.pile scratch other
      record { long = h.tables_room.nodes_room; long_too = h.tables_room.nodes_room; same = λ i l. refl }
      record { long = h.tables_room.pile_room; long_too = h.tables_room.pile_room; same = λ i l. refl } h b).0
]
  where
    short : AuditShort E w scratch → AuditShort E w other
    short (inl s) = inl s
    short (inr s) = absurd (omega (arith, s.1))

-- ---- calls
head_of : (E : Edition) (w : Words) (l : Ledger Stacks) → Sound E w l → OfHead E w
head_of E w l S = S.room.of_head

module _ (E : Edition) (scratch : List ℕ) where
  -- a call keeps the count, since the ledger has it
  after_call : (w : Words) (l : Ledger Stacks) → Sound E w l → w.count ≤ length scratch → (c : Call)
      → ((m : Ledger Stacks) × Sound E (answer_words E c w).1 m) × ((answer_words E c w).1.count ≤ length scratch)
  after_call w l S h c =
      let next = (call_sound E w l S c).1 in
      let well = call_well by_class class_laws w.size w.count S.room.tables.count_low c l S.well in
      ((_, next), omega (arith, all_records next.well.lined, all_records well.lined))

  run_audited : (cs : List Call) (w : Words) (l : Ledger Stacks) → Sound E w l → w.count ≤ length scratch
      → (audit_words E (end (answer_words E) cs w) scratch).0 ≡ done
  unfolding answer_words end
  run_audited [] w l S h = answer_is E w scratch (sound_audited E w scratch l S h)
  run_audited (c ∷ cs) w l S h =
      let next = after_call w l S h c in
      run_audited cs (answer_words E c w).1 next.0.0 next.0.1 next.1

  one_call : (w : Words) → OfHead E w → (audit_words E w scratch).0 ≡ done → (c : Call) → (audit_words E (answer_words E c w).1 scratch).0 ≡ done
  one_call w H e c =
      let p = (done_exactly E w scratch H).0 e in
      let next = after_call w p.1.0 p.1.1 p.0.scratch_room c in
      answer_is E (answer_words E c w).1 scratch (sound_audited E (answer_words E c w).1 scratch next.0.0 next.0.1 next.1)

  setup_count : (size count : ℕ) (lent : Lent) → (accepted : (setup_words E size count lent).0 ≡ done)
      → (setup_words E size count lent).1.count ≡ count
  setup_count size count lent accepted =
      sym (all_records (setup_sound E size count lent accepted).well.lined)
      ∙ all_records (setup_well by_class class_laws size count ((setup_done E size count lent).0 accepted).1.count_low).lined

pub claims : (E : Edition) → Claims E
claims E = record {
  yes_exactly = done_exactly E;
  sound_head = head_of E;
  one_case = λ w scratch. elim (audited? E w scratch) [ by_count h e ↦ inl h | by_length h e ↦ inr (inl h) | tested h e ↦ inr (inr h) ];
  cases_apart = λ w scratch. (short_not_count E w scratch, room_not_count E w scratch, room_long E w scratch);
  bad_count = at_bad_count E;
  too_short = at_short E;
  two_exactly = short_exactly E;
  six_exactly = unsound_exactly E;
  no_other = one_of_three E;
  scratch_length = same_length E;
  scratch_low = zero_low E;
  scratch_beyond = same_beyond E;
  any_scratch = same_answer E;
  not_read = unread E;
  sound_yes = λ w l scratch S h. sound_audited E w scratch l S h;
  call_keeps = λ w scratch. one_call E scratch w;
  run_keeps = λ size count lent scratch accepted h cs.
      run_audited E scratch cs (setup_words E size count lent).1 (setup by_class size count)
      (setup_sound E size count lent accepted)
      (omega (arith, setup_count E scratch size count lent accepted));
  question_leaves = λ q w scratch. ap (λ (v : Words). audit_words E v scratch) (question_kept E q w);
}
