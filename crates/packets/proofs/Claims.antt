-- All that specs/Claims.antt claims holds, under every edition. Assumes nothing.
use mathlib.Core.Path.{◌≡◌, sym, ap, ◌∙◌}
use Rattle.tables.specs.Words.{Edition}
use Rattle.packets.specs.Stores.{Two}
use Rattle.packets.specs.Calls.{PacketCall, Answered}
use Rattle.packets.specs.Promise.{PacketPromise}
use Rattle.packets.specs.Claims.{PacketClaims}
use Rattle.packets.proofs.Told.{read_is, length_is_told, read_none, length_none, fill_done, fill_17, fill_none, back_done, back_none, never_9}
use Rattle.packets.proofs.AsFilled.{as_filled, not_after_return, no_length_after_return}
use Rattle.packets.proofs.BareSetups.{set_up_bare, set_up_both_bare}
use Rattle.packets.proofs.AsNever.{as_never}
use Rattle.packets.proofs.SinceSetups.{stands, made_along_lem, audit_says_yes, not_short}
use Rattle.packets.proofs.TakeAnswers.{first_try}
use Rattle.packets.proofs.ShortStores.{nine_exactly, read_short}
use Rattle.packets.proofs.BytesInside.{seventeen_exactly, length_inside}

one_outcome : {E : Edition} (c : PacketCall) (t u v : Two) (a b : Answered) → PacketPromise E c t u a → PacketPromise E c t v b → (a ≡ b) × (u ≡ v)
one_outcome c t u v a b p q =
    let same : ◌≡◌ {A = Answered × Two} (a, u) (b, v) = p.exact ∙ sym q.exact in
    (ap (λ (x : Answered × Two). x.0) same, ap (λ (x : Answered × Two). x.1) same)

pub claims : (E : Edition) → PacketClaims E
claims E = record {
  read_is = read_is E;
  length_is_told = length_is_told E;
  read_none = read_none E;
  length_none = length_none E;
  as_filled = as_filled E;
  not_after_return = not_after_return E;
  no_length_after_return = no_length_after_return E;
  fill_done = fill_done E;
  fill_17 = fill_17 E;
  fill_none = fill_none E;
  back_done = back_done E;
  back_none = back_none E;
  stands = stands E;
  made_along_lem = made_along_lem E;
  audit_says_yes = audit_says_yes E;
  not_short = not_short E;
  never_9 = never_9 E;
  set_up_bare = set_up_bare E;
  set_up_both_bare = set_up_both_bare E;
  as_never = as_never E;
  first_try = first_try E;
  nine_exactly = nine_exactly E;
  read_short = read_short E;
  seventeen_exactly = seventeen_exactly E;
  length_inside = length_inside E;
  one_outcome = one_outcome;
}
