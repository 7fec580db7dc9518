-- Demand 3: a stretch of calls that hands back what it was granted, last granted first, ends in the ledger it began with. Assumes nothing.
use Rattle.ledger.specs.Ledger.{Engine, Ledger, take, Answer, granted}
use Rattle.ledger.specs.Laws.{Laws}
use mathlib.Core.Path.{◌≡◌, refl, ap, ◌∙◌}
use Prim.Native.Nat.{ℕ}
use mathlib.Core.List.{List, [], ◌∷◌}
use Rattle.ledger.specs.Calls.{Token, span_of, hands_back, HandBack, answer, end, answers, log, Call, Event, event}
use Rattle.ledger.specs.WellFormed.{WellFormed}
use Rattle.ledger.specs.Stretch.{Stretch, ended, grants, returns, refuses, asks}
use Rattle.ledger.proofs.CallsWell.{take_well, keeps_well}
use Rattle.ledger.proofs.Outcomes.{call_case}
use Rattle.basics.proofs.Clash.{clash}
use Rattle.ledger.proofs.Refusals.{refused_same}
use Rattle.ledger.proofs.Undo.{undo}

module _ (E : Engine) (laws : Laws E) where
  module _ (size count : ℕ) where
    -- this span was granted in the ledger `earlier`, which left l
    record GrantedIn (earlier : Ledger E.Index) (span : Token) (l : Ledger E.Index) : Type 0 where
      s : ℕ
      o : ℕ
      r : ℕ
      span_is : span ≡ span_of o r
      well : WellFormed E size count earlier
      is_granted : (take E s earlier).0 ≡ granted o r
      left : l ≡ (take E s earlier).1

    -- from start on the spans of own were granted, the last granted first in the list, each in the ledger that the one before it left
    abbrev Trail : Ledger E.Index → List Token → Ledger E.Index → Type 0
    Trail start [] l = l ≡ start
    Trail start (span ∷ own) l = (earlier : Ledger E.Index) × Trail start own earlier × GrantedIn earlier span l

    -- Midway in a stretch that began at start: it stands at l, and the events es are to come.
    record Midway (start : Ledger E.Index) (es : List Event) (l : Ledger E.Index) : Type 0 where
      own : List Token
      stretch : Stretch own es
      well : WellFormed E size count l
      trail : Trail start own l

    -- the next event: a grant makes the trail longer, its return goes back on it, and nothing else moves
    onward : {own : List Token} {c : Call} {a : Answer} {es : List Event} → Stretch own (event c a ∷ es)
        → (start l : Ledger E.Index) → (answer E size count c l).0 ≡ a → WellFormed E size count l → Trail start own l
        → Midway start es (answer E size count c l).1
    unfolding answer
    onward (grants {own = own} {asked = asked} {o = o} {r = r} h) start l e w trail = record {
      own = span_of o r ∷ own;
      stretch = h;
      well = take_well E laws size count asked.size l w;
      trail = (l, trail, record { s = asked.size; o = o; r = r; span_is = refl; well = w; is_granted = e; left = refl });
    }
    onward (returns {own = own} {span = span} h) start l e w trail =
        let g = trail.2 in
        let undone : (hands_back E span l).1 ≡ trail.0 =
        ap (λ k. (hands_back E span k).1) g.left ∙ ap (λ s. (hands_back E s (take E g.s trail.0).1).1) g.span_is
        ∙ ap (λ x. x.1) (undo E laws size count g.s g.o g.r trail.0 g.well g.is_granted) in
        record {
          own = own;
          stretch = h;
          well = keeps_well E laws size count l w (call_case E laws size count w (HandBack span)) (λ x. clash (cc));
          trail = rw undone trail.1;
        }
    onward (refuses {own = own} {c = c} {k = k} h) start l e w trail =
        let unchanged = refused_same E laws size count c k l w e in
        record { own = own; stretch = h; well = rw unchanged w; trail = rw unchanged trail }
    onward (asks {own = own} h) start l e w trail = record { own = own; stretch = h; well = w; trail = trail }

    at_the_end : {own : List Token} (start l : Ledger E.Index) → Stretch own [] → Trail start own l → l ≡ start
    at_the_end start l ended trail = trail

    to_the_end : (cs : List Call) (start l : Ledger E.Index) → Midway start (log (answer E size count) cs l) l → end (answer E size count) cs l ≡ start
    unfolding answer end log
    to_the_end [] start l m = at_the_end start l m.stretch m.trail
    to_the_end (c ∷ cs) start l m = to_the_end cs start (answer E size count c l).1 (onward m.stretch start l refl m.well m.trail)

    pub stretch_restores : (cs : List Call) (l : Ledger E.Index) → WellFormed E size count l → Stretch [] (log (answer E size count) cs l)
        → end (answer E size count) cs l ≡ l
    stretch_restores cs l w h = to_the_end cs l l record { own = []; stretch = h; well = w; trail = refl }

    pub as_though_never : (cs : List Call) (l : Ledger E.Index) → WellFormed E size count l → Stretch [] (log (answer E size count) cs l)
        → (later-calls : List Call) → answers (answer E size count) later-calls (end (answer E size count) cs l) ≡ answers (answer E size count) later-calls l
    as_though_never cs l w h later-calls = ap (answers (answer E size count) later-calls) (stretch_restores cs l w h)
