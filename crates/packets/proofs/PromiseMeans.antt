-- What specs/PromiseMeans.antt says of the promises holds, under every edition. Assumes nothing.
use mathlib.Core.Path.{◌≡◌, refl, sym, ap, ◌∙◌}
use mathlib.Core.Logic.{◌↔◌, ◌⊎◌, inl, inr, ◌≢◌}
use mathlib.Core.Bool.{Bool, true, false, ◌||◌, cond}
use mathlib.Core.List.{List, [], ◌∷◌}
use Prim.Native.Nat.{ℕ, zero, suc, ◌+◌, ◌≤◌, ◌<◌}
use native.Mathlib.Omega.{arith}
use lib.Dec.{eqb, ltb}
use lib.ListN.{length, get_or}
use borrow.Author.Tests.{lt-ltb, le-ltb}
use Rattle.basics.proofs.Clash.{clash}
use Rattle.basics.proofs.Decided.{Below, below, beyond, below?, Same, same, differ, same?}
use Rattle.ledger.specs.Ledger.{Answer, granted, done, length_is, refused}
use Rattle.ledger.specs.Calls.{Request, Token}
use Rattle.ledger.specs.Calls as ledger
use Rattle.tables.specs.Words.{Edition}
use Rattle.tables.specs.Gate.{gated}
use Rattle.tables.specs.Setup.{zeros, setup_words, fresh}
use Rattle.tables.specs.Calls.{answer_words}
use Rattle.tables.specs.Claims.{OneOf}
use Rattle.tables.proofs.Claims as tables
use Rattle.audit_words.specs.Audit.{audit_words}
use Rattle.parts.specs.Bytes.{part_of, over, not_heard, marked}
use Rattle.parts.proofs.Meanings.{bytes_mean}
use Rattle.packets.specs.declared.Store.{Store}
use Rattle.packets.specs.declared.Store.TheVariants.{OnChip, External}
use Rattle.packets.specs.Stores.{Kept, Two, two, at, put, other, with_bytes}
use Rattle.packets.specs.OneStore.{lent_in, no_store_yet, fresh_bytes, filled_by, take_in, length_in, fill_in, read_in, set_up_in}
use Rattle.packets.specs.Calls.{PacketCall, Take, HandBack, Fill, Read, LengthOf, ReportOf, Answered, packet, shows, plain, plainly}
use Rattle.packets.specs.Calls.{too_short, nine, goes_on, on, from_external, externally, after_first, take_from, refused_by, gate_in}
use Rattle.packets.specs.Calls.{packet_words, set_up_words, set_up_both_words, audit_in}
use Rattle.packets.specs.Promise.{MayWrite, PacketPromise, PacketAudit}
use Rattle.packets.specs.Claims.{Bare, no_store, just_set_up, Short, CannotBeRead}
use Rattle.packets.specs.PromiseMeans.{PromiseMeans}
use Rattle.packets.proofs.Steps.{shows_part, shows_nothing}
use Rattle.packets.proofs.Setups.{at_put}
use Rattle.packets.proofs.ShortStores.{short_found, found_short, long_found}
use Rattle.packets.proofs.BytesInside.{length_inside}
use Rattle.packets.proofs.TakeAnswers.{first_granted, went_on, take_past}

-- ---- which bytes may be written
may_write_no_more : (c : PacketCall) (a : Answered) (s : Store) (i : ℕ) → MayWrite c a s i
    → ((asked : Request) × (o : ℕ) × (r : ℕ) × (c ≡ Take asked) × (a ≡ packet s o r) × (o ≤ i) × (i < o + asked.size))
    ⊎ ((span : Token) × (new : List ℕ) × (c ≡ Fill s span new) × (span.offset ≤ i) × (i < span.offset + length new))
may_write_no_more (Take asked) (packet named o r) s i w =
    inl (asked, o, r, refl, ap (λ (x : Store). packet x o r) (sym w.0), w.1.0, w.1.1)
may_write_no_more (Take asked) (shows bytes) s i w = absurd w
may_write_no_more (Take asked) (plain a) s i w = absurd w
may_write_no_more (HandBack named span) a s i w = absurd w
may_write_no_more (Fill named span new) a s i w = inr (span, new, ap (λ (x : Store). Fill x span new) (sym w.0), w.1.0, w.1.1)
may_write_no_more (Read named span) a s i w = absurd w
may_write_no_more (LengthOf named span) a s i w = absurd w
may_write_no_more (ReportOf named) a s i w = absurd w

not_there : {s named : Store} {from i : ℕ} (many : ℕ) → (s ≢ named) ⊎ ((i < from) ⊎ (from + many ≤ i)) → ¬ ((s ≡ named) × ((from ≤ i) × (i < from + many)))
not_there many (inl h) w = h w.0
not_there many (inr (inl h)) w = omega (arith, h, w.1.0)
not_there many (inr (inr h)) w = omega (arith, h, w.1.1)

-- ---- 255 over a part
marked_255 : (store : List ℕ) (o n i : ℕ) → o ≤ length store → i < n → get_or (marked store o n) (o + i) 0 ≡ 255
marked_255 store o n i h b =
    let many = bytes_mean.not_heard_length n in
    ap (λ (x : List ℕ). get_or x (o + i) 0) (bytes_mean.marked_is store o n)
    ∙ bytes_mean.over_there store o (not_heard n) i h (omega (arith, many, b))
    ∙ bytes_mean.not_heard_bytes n i b

plain_of : {a b : Answer} → plain a ≡ plain b → a ≡ b
plain_of e = cc

number_of : (j k : ℕ) → refused j ≡ refused k → j ≡ k
number_of j k e = cc

-- ---- the test of two stores
either : (a b c d : ℕ) → ((ltb a b || ltb c d) ≡ true) ↔ ((a < b) ⊎ (c < d))
either a b c d = (λ e. go (below? a b) (below? c d) e, back)
  where
    go : Below a b → Below c d → (ltb a b || ltb c d) ≡ true → (a < b) ⊎ (c < d)
    go (below h z) q e = inl h
    go (beyond h z) (below g y) e = inr g
    go (beyond h z) (beyond g y) e = clash (cc)

    whatever : (b : Bool) → (b || true) ≡ true
    whatever true = refl
    whatever false = refl

    back : (a < b) ⊎ (c < d) → (ltb a b || ltb c d) ≡ true
    back (inl h) = ap (λ (x : Bool). x || ltb c d) (lt-ltb a b h)
    back (inr h) = ap (λ (x : Bool). ltb a b || x) (lt-ltb c d h) ∙ whatever (ltb a b)

nine_if : {P : Type 0} (b : Bool) (left : Two) (outcome : Answered × Two) → ((b ≡ true) ↔ P) → outcome.0 ≢ plain (refused 9)
    → ((nine b left outcome).0 ≡ plain (refused 9)) ↔ P
nine_if {P} b left outcome h n = (λ e. go b refl e, λ p. ap (λ (x : Bool). (nine x left outcome).0) (h.1 p))
  where
    go : (x : Bool) → b ≡ x → (nine x left outcome).0 ≡ plain (refused 9) → P
    go true z e = h.0 z
    go false z e = absurd (n e)

module _ (E : Edition) where
  -- ---- past the test for 9, where an answer is a length
  past : (t : Two) (s : Store) (span : Token) (n : ℕ) → (packet_words E (LengthOf s span) t).0 ≡ plain (length_is n)
      → (too_short t ≡ false) × (length_in E span (at s t) ≡ length_is n)
  unfolding packet_words
  past t s span n e = go (too_short t) refl e
    where
      go : (b : Bool) → too_short t ≡ b → (nine b t (plain (length_in E span (at s t)), t)).0 ≡ plain (length_is n)
          → (too_short t ≡ false) × (length_in E span (at s t) ≡ length_is n)
      go true z f = clash (cc)
      go false z f = (z, plain_of f)

  read_part : (s : Store) (span : Token) (t : Two) (n : ℕ) → (packet_words E (LengthOf s span) t).0 ≡ plain (length_is n)
      → (packet_words E (Read s span) t).0 ≡ shows (part_of (at s t).bytes span.offset n)
  unfolding packet_words
  read_part s span t n e =
      let so = past t s span n e in
      ap (λ (b : Bool). shows (cond b [] (read_in E span (at s t)))) so.0 ∙ ap shows (sym (shows_part E span (at s t) n (sym so.1)))

  read_refused : (s : Store) (span : Token) (t : Two) (k : ℕ) → (packet_words E (LengthOf s span) t).0 ≡ plain (refused k)
      → (packet_words E (Read s span) t).0 ≡ shows []
  unfolding packet_words
  read_refused s span t k e = go (too_short t) e
    where
      go : (b : Bool) → (nine b t (plain (length_in E span (at s t)), t)).0 ≡ plain (refused k)
          → shows (cond b [] (read_in E span (at s t))) ≡ shows []
      go true f = refl
      go false f = ap shows (sym (shows_nothing E span (at s t) k (sym (plain_of f))))

  -- ---- a question leaves both stores
  asking_keeps : {t u : Two} {s : Store} {span : Token} {a : Answered}
      → (PacketPromise E (Read s span) t u a → u ≡ t) × (PacketPromise E (LengthOf s span) t u a → u ≡ t) × (PacketPromise E (ReportOf s) t u a → u ≡ t)
  unfolding packet_words
  asking_keeps {t} {u} {s} {span} {a} = (
    λ p. ap (λ (x : Answered × Two). x.1) p.exact,
    λ p. ap (λ (x : Answered × Two). x.1) p.exact ∙ same (too_short t) _,
    λ p. ap (λ (x : Answered × Two). x.1) p.exact ∙ same (too_short t) _,
  )
    where
      same : (b : Bool) (x : Answered) → (nine b t (x, t)).1 ≡ t
      same true x = refl
      same false x = refl

  -- ---- a fresh grant
  fresh_in : (asked : Request) (k : Kept) (o r i : ℕ) → (take_in E asked k).0 ≡ granted o r → o ≤ length k.bytes → i < asked.size
      → get_or (take_in E asked k).1.bytes (o + i) 0 ≡ 255
  unfolding take_in fresh_bytes
  fresh_in asked k o r i e h b =
      ap (λ (a : Answer). get_or (fresh_bytes a asked.size k.bytes) (o + i) 0) e ∙ marked_255 k.bytes o asked.size i h b

  fresh_at : (t u : Two) (asked : Request) (s : Store) (o r : ℕ) → PacketPromise E (Take asked) t u (packet s o r) → (i : ℕ) → i < asked.size
      → get_or (at s u).bytes (o + i) 0 ≡ 255
  unfolding take_from
  fresh_at t u asked OnChip o r p i b =
      let so = take_past E (λ e. clash (cc)) p in
      let first = take_in E asked t.on_chip in
      let is = first_granted first.0 first.1 t.external (take_in E asked t.external) (ap (λ (x : Answered × Two). x.0) so.1) in
      let left : u.on_chip ≡ first.1 =
      ap (λ (x : Answered × Two). x.1.on_chip) so.1
      ∙ ap (λ (a : Answer). (after_first a first.1 t.external (take_in E asked t.external)).1.on_chip) is in
      ap (λ (k : Kept). get_or k.bytes (o + i) 0) left
      ∙ fresh_in asked t.on_chip o r i is (omega (arith, p.inside asked OnChip o r refl refl)) b
  fresh_at t u asked External o r p i b =
      let so = take_past E (λ e. clash (cc)) p in
      let first = take_in E asked t.on_chip in
      let second = take_in E asked t.external in
      let there = went_on first.0 first.1 t.external second (ap (λ (x : Answered × Two). x.0) so.1) in
      let left : u.external ≡ second.1 =
      ap (λ (x : Answered × Two). x.1.external) so.1
      ∙ ap (λ (a : Answer). (after_first a first.1 t.external second).1.external) there.first_refused
      ∙ ap (λ (goes : Bool). (cond {A = Answered × Two} goes ((externally second).0, two first.1 (externally second).1)
      (plain (refused there.number), two first.1 t.external)).1.external) there.goes in
      ap (λ (k : Kept). get_or k.bytes (o + i) 0) left
      ∙ fresh_in asked t.external o r i there.second_granted (omega (arith, p.inside asked External o r refl refl)) b

  -- ---- what a take answers, by what each store's own take does
  said : (asked : Request) (t : Two) (a : Answer) (x : Answered) → ¬ Short t → (answer_words E (ledger.Take asked) t.on_chip.words).0 ≡ a
      → (after_first a (take_in E asked t.on_chip).1 t.external (take_in E asked t.external)).0 ≡ x → (packet_words E (Take asked) t).0 ≡ x
  unfolding packet_words take_from take_in
  said asked t a x long e f =
      ap (λ (b : Bool). (nine b t (take_from E asked t)).0) (long_found t long)
      ∙ ap (λ (y : Answer). (after_first y (take_in E asked t.on_chip).1 t.external (take_in E asked t.external)).0) e
      ∙ f

  goes_on_lem : (k : ℕ) → OneOf (3 ∷ 4 ∷ []) k → goes_on k ≡ true
  goes_on_lem k (inl e) = ap goes_on e
  goes_on_lem k (inr (inl e)) = ap goes_on e
  goes_on_lem k (inr (inr e)) = absurd e

  stops_at : (k : ℕ) → k ≢ 3 → k ≢ 4 → goes_on k ≡ false
  stops_at k h g = go (same? k 3) (same? k 4)
    where
      go : Same k 3 → Same k 4 → goes_on k ≡ false
      go (same e z) q = absurd (h e)
      go (differ e z) (same f y) = absurd (g f)
      go (differ e z) (differ f y) = ap (λ (b : Bool). b || eqb k 4) z ∙ y

  outcome_of_lem : (k : ℕ) (first beside : Kept) (second : Answer × Kept) (goes : Bool) → goes_on k ≡ goes
      → (after_first (refused k) first beside second).0
      ≡ (cond {A = Answered × Two} goes ((externally second).0, two first (externally second).1) (plain (refused k), two first beside)).0
  outcome_of_lem k first beside second goes e =
      ap (λ (b : Bool). (cond {A = Answered × Two} b ((externally second).0, two first (externally second).1) (plain (refused k), two first beside)).0) e

  take_here : (asked : Request) (t : Two) (o r : ℕ) → ¬ Short t → (answer_words E (ledger.Take asked) t.on_chip.words).0 ≡ granted o r
      → (packet_words E (Take asked) t).0 ≡ packet OnChip o r
  take_here asked t o r long e = said asked t (granted o r) (packet OnChip o r) long e refl

  take_stops : (asked : Request) (t : Two) (k : ℕ) → ¬ Short t → (answer_words E (ledger.Take asked) t.on_chip.words).0 ≡ refused k → k ≢ 3 → k ≢ 4
      → (packet_words E (Take asked) t).0 ≡ plain (refused k)
  take_stops asked t k long e h g =
      said asked t (refused k) (plain (refused k)) long e
      (outcome_of_lem k (take_in E asked t.on_chip).1 t.external (take_in E asked t.external) false (stops_at k h g))

  take_goes_on : (asked : Request) (t : Two) (k : ℕ) (b : Answer) → ¬ Short t → (answer_words E (ledger.Take asked) t.on_chip.words).0 ≡ refused k
      → OneOf (3 ∷ 4 ∷ []) k → (answer_words E (ledger.Take asked) t.external.words).0 ≡ b → (packet_words E (Take asked) t).0 ≡ from_external b
  unfolding take_in
  take_goes_on asked t k b long e h f =
      said asked t (refused k) (from_external b) long e
      (outcome_of_lem k (take_in E asked t.on_chip).1 t.external (take_in E asked t.external) true (goes_on_lem k h) ∙ ap from_external f)

  -- ---- a fill that is done
  fill_is : (span : Token) (new : List ℕ) (k : Kept) (n : ℕ) → length_in E span k ≡ length_is n → length new ≤ n
      → fill_in E span new k ≡ (done, with_bytes k (over k.bytes span.offset new))
  unfolding fill_in filled_by
  fill_is span new k n e h =
      ap (λ (a : Answer). ((filled_by a span.offset new k.bytes).0, with_bytes k (filled_by a span.offset new k.bytes).1)) e
      ∙ ap (λ (b : Bool). let x = cond {A = Answer × List ℕ} b (refused 17, k.bytes) (done, over k.bytes span.offset new) in
      (x.0, with_bytes k x.1)) (le-ltb n (length new) h)

  filled_front : {t u : Two} {s : Store} {span : Token} {new : List ℕ} {a : Answered} {n : ℕ}
      → (packet_words E (LengthOf s span) t).0 ≡ plain (length_is n) → length new ≤ n → PacketPromise E (Fill s span new) t u a
      → (a ≡ plain done) × ((i : ℕ) → i < length new → get_or (at s u).bytes (span.offset + i) 0 ≡ get_or new i 0)
  unfolding packet_words
  filled_front {t} {u} {s} {span} {new} {a} {n} e h p =
      let so = past t s span n e in
      let k = at s t in
      let left : Kept = with_bytes k (over k.bytes span.offset new) in
      let outcome : ◌≡◌ {A = Answered × Two} (a, u) (plain done, put s left t) =
      p.exact ∙ ap (λ (b : Bool). nine b t (on s t (fill_in E span new k))) so.0 ∙ ap (λ (x : Answer × Kept). on s t x) (fill_is span new k n so.1 h) in
      let there : at s u ≡ left = ap (λ (x : Answered × Two). at s x.1) outcome ∙ at_put s left t in (
        ap (λ (x : Answered × Two). x.0) outcome,
        λ i b.
            ap (λ (m : Kept). get_or m.bytes (span.offset + i) 0) there
            ∙ bytes_mean.over_there k.bytes span.offset new i (omega (arith, length_inside E s span t n e)) b,
      )

  -- ---- 9 at the setups
  not_9 : (n : ℕ) → OneOf (1 ∷ 10 ∷ 2 ∷ []) n → n ≢ 9
  not_9 n (inl e) f = omega (arith, e, f)
  not_9 n (inr (inl e)) f = omega (arith, e, f)
  not_9 n (inr (inr (inl e))) f = omega (arith, e, f)
  not_9 n (inr (inr (inr e))) f = e

  set_up_not_9 : (size count : ℕ) (k : Kept) → (set_up_in E size count k).0 ≢ refused 9
  unfolding set_up_in
  set_up_not_9 size count k e = not_9 9 ((tables.claims E).setup_numbers size count (lent_in k.words) 9 e) refl

  gate_refuses : (size count : ℕ) (k : Kept) (n : ℕ) → gate_in E size count k ≡ suc n → (set_up_in E size count k).0 ≡ refused (suc n)
  unfolding set_up_in setup_words gated
  gate_refuses size count k n e =
      ap (λ (m : ℕ). (gated m (zeros (lent_in k.words)) (done, fresh E size count k.words.nodes k.words.pile)).0) e

  gate_not_9 : (size count : ℕ) (k : Kept) → gate_in E size count k ≢ 9
  gate_not_9 size count k e = set_up_not_9 size count k (gate_refuses size count k 8 e)

  set_up_nine : (s : Store) (size count : ℕ) (t : Two) → ((set_up_words E s size count t).0 ≡ plain (refused 9))
      ↔ ((length (at s t).bytes < size) ⊎ (length (at (other s) t).bytes < (at (other s) t).words.size))
  unfolding set_up_words
  set_up_nine s size count t =
      nine_if _ _ _ (either (length (at s t).bytes) size (length (at (other s) t).bytes) (at (other s) t).words.size)
      (λ e. set_up_not_9 size count (at s t) (plain_of e))

  refused_by_not_9 : (n : ℕ) (left : Two) (outcome : Answered × Two) → n ≢ 9 → outcome.0 ≢ plain (refused 9)
      → (refused_by n left outcome).0 ≢ plain (refused 9)
  refused_by_not_9 zero left outcome h g e = g e
  refused_by_not_9 (suc n) left outcome h g e = h (cc)

  set_up_both_nine : (size count other-size other-count : ℕ) (t : Two) → ((set_up_both_words E size count other-size other-count t).0 ≡ plain (refused 9))
      ↔ ((length t.on_chip.bytes < size) ⊎ (length t.external.bytes < other-size))
  unfolding set_up_both_words
  set_up_both_nine size count other-size other-count t =
      nine_if _ _ _ (either (length t.on_chip.bytes) size (length t.external.bytes) other-size)
      (refused_by_not_9 _ _ _ (gate_not_9 size count t.on_chip)
      (refused_by_not_9 _ _ _ (gate_not_9 other-size other-count t.external) (λ e. clash (cc))))

  -- ---- and at the audit
  audit_nine : {s : Store} {t : Two} {scratch left : List ℕ} {a : Answered} → PacketAudit E s t scratch left a
      → ((a ≡ plain (refused 9)) ↔ Short t) × (Short t → left ≡ scratch)
  unfolding audit_in
  audit_nine {s} {t} {scratch} {left} {a} p = (
    (λ e. go (too_short t) refl e, λ h. ap (λ (x : Answered × List ℕ). x.0) (short h)),
    λ h. ap (λ (x : Answered × List ℕ). x.1) (short h),
  )
    where
      short : Short t → ◌≡◌ {A = Answered × List ℕ} (a, left) (plain (refused 9), scratch)
      short h =
          p.exact
          ∙ ap (λ (b : Bool). plainly (cond {A = Answer × List ℕ} b (refused 9, scratch) (audit_words E (at s t).words scratch))) (short_found t h)

      other_answer : (b : Answer) → (b ≡ done) ⊎ ((b ≡ refused 2) ⊎ (b ≡ refused 6)) → b ≢ refused 9
      other_answer b (inl e) f = clash (cc)
      other_answer b (inr (inl e)) f = absurd (omega (arith, number_of 2 9 (sym e ∙ f)))
      other_answer b (inr (inr e)) f = absurd (omega (arith, number_of 6 9 (sym e ∙ f)))

      go : (b : Bool) → too_short t ≡ b → a ≡ plain (refused 9) → Short t
      go true z e = found_short t z
      go false z e = let made = p.made z in absurd (other_answer made.0 made.2.no_other (plain_of (sym made.1 ∙ e)))

-- ---- why it cannot be read
there_5_or_8 : (k : Kept) (a : Answered) → CannotBeRead k a → k.words.count ≢ 0 → (a ≡ plain (refused 5)) ⊎ (a ≡ plain (refused 8))
there_5_or_8 k a (inl e) h = inl e
there_5_or_8 k a (inr (inl e)) h = inr e
there_5_or_8 k a (inr (inr e)) h = absurd (h e.1)

cannot_numbers : (k : Kept) (a : Answered) → CannotBeRead k a → (n : ℕ) × OneOf (5 ∷ 8 ∷ 6 ∷ []) n × (a ≡ plain (refused n))
cannot_numbers k a (inl e) = (5, inl refl, e)
cannot_numbers k a (inr (inl e)) = (8, inr (inl refl), e)
cannot_numbers k a (inr (inr e)) = (6, inr (inr (inl refl)), e.0)

pub promise_means : (E : Edition) → PromiseMeans E
promise_means E = record {
  may_write_no_more = may_write_no_more;
  take_outside = λ {t} {u} {asked} p s i h. p.outside s i (not_there asked.size h);
  fill_outside = λ {t} {u} {named} {span} {new} p s i h. p.outside s i (not_there (length new) h);
  back_bytes = λ p s i. p.outside s i (λ w. w);
  refusal_keeps = λ p. p.kept _ refl;
  asking_keeps = asking_keeps E;
  as_many_bytes = λ p s. p.lengths s;
  grant_inside = λ {t} {u} {asked} {s} {o} {r} p. p.inside asked s o r refl refl;
  set_up_leaves = λ p. (p.other_kept, p.bytes_kept);
  set_up_refused = λ p. p.refused_none _ refl;
  both_leave = λ p s. p.bytes_kept s;
  both_refused = λ {size} {count} {other-size} {other-count} {k} {t} {u} p s.
      ap (at s) (p.refused_none k refl) ∙ elim s as (λ (s : Store). at s (two (no_store_yet t.on_chip) (no_store_yet t.external)) ≡ no_store_yet (at s t)) [ OnChip ↦ refl | External ↦ refl ];
  take_here = take_here E;
  take_stops = take_stops E;
  take_outside_chip = λ asked t k o r long e h f. take_goes_on E asked t k (granted o r) long e h f;
  take_refused_twice = λ asked t k n long e h f. take_goes_on E asked t k (refused n) long e h f;
  fresh_255 = λ {t} {u} {asked} {s} {o} {r} p. fresh_at E t u asked s o r p;
  filled_front = filled_front E;
  read_part = read_part E;
  read_refused = read_refused E;
  set_up_nine = set_up_nine E;
  set_up_both_nine = set_up_both_nine E;
  audit_nine = audit_nine E;
  there_5_or_8 = there_5_or_8;
  cannot_numbers = cannot_numbers;
  none_bare = λ k c s. no_store c s;
  begun_bare = λ k size count sound long. just_set_up size count sound long;
  each_bare = λ t a b. record { each = λ s. elim s as (λ (s : Store). Bare E (at s t)) [ OnChip ↦ a | External ↦ b ] };
}
