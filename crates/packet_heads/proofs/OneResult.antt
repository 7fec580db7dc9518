-- A promise fixes the answer and both stores, and these fix the values of the code. Assumes nothing.
use mathlib.Core.Path.{◌≡◌, sym, ap, ◌∙◌}
use mathlib.Core.List.{List}
use Prim.Native.Nat.{ℕ}
use Rattle.tables.specs.Words.{Edition}
use Rattle.records.specs.InWords.{totals_in}
use Rattle.packets.specs.declared.Store.{Store}
use Rattle.packets.specs.declared.Store.TheVariants.{OnChip, External}
use Rattle.packets.specs.Stores.{Kept, Two, placed}
use Rattle.packets.specs.Calls.{PacketCall, Answered, shows}
use Rattle.packets.specs.Promise.{PacketPromise, PacketSetup, PacketSetupBoth, PacketAudit}
use Rattle.packets.proofs.OneValue.{packet_one_value}
use Rattle.packet_heads.specs.OneResult.{InPlace, ByValue, Form, in_place, by_value, PacketOneResult, PacketOneResultInBoth}

-- ---- a store fixes what it is made of
in_place_fixed : (v u : InPlace) → in_place.store v ≡ in_place.store u → v ≡ u
in_place_fixed v u e = λ i. record {
  totals = totals_in (e i).words;
  bin_indices = (e i).words.bin_indices;
  used_bins = (e i).words.used_bins;
  nodes = (e i).words.nodes;
  pile = (e i).words.pile;
  bytes = (e i).bytes;
}

by_value_fixed : (v u : ByValue) → by_value.store v ≡ by_value.store u → v ≡ u
by_value_fixed v u e = λ i. record {
  head = record { totals = totals_in (e i).words; bin_indices = (e i).words.bin_indices; used_bins = (e i).words.used_bins };
  nodes = (e i).words.nodes;
  pile = (e i).words.pile;
  bytes = (e i).bytes;
}

-- ---- an outcome has one answer, and one of each store
module _ {a b : Answered} {u v : Two} (e : ◌≡◌ {A = Answered × Two} (a, u) (b, v)) where
  answers_same : a ≡ b
  answers_same = ap (λ (x : Answered × Two). x.0) e

  on_chip_same : u.on_chip ≡ v.on_chip
  on_chip_same = ap (λ (x : Answered × Two). x.1.on_chip) e

  external_same : u.external ≡ v.external
  external_same = ap (λ (x : Answered × Two). x.1.external) e

-- the store that is meant
meant_same : (s : Store) (k l beside : Kept) → placed s k beside ≡ placed s l beside → k ≡ l
meant_same OnChip k l beside e = ap (λ (t : Two). t.on_chip) e
meant_same External k l beside e = ap (λ (t : Two). t.external) e

module _ (E : Edition) {c : PacketCall} {t u v : Two} {a b : Answered} where
  one_outcome : PacketPromise E c t u a → PacketPromise E c t v b → ◌≡◌ {A = Answered × Two} (a, u) (b, v)
  one_outcome p q = p.exact ∙ sym q.exact

one_setup : (E : Edition) (s : Store) (size count : ℕ) {t u v : Two} {a b : Answered} → PacketSetup E s size count t u a
    → PacketSetup E s size count t v b → ◌≡◌ {A = Answered × Two} (a, u) (b, v)
one_setup E s size count p q = p.exact ∙ sym q.exact

one_setup_both : (E : Edition) (size count other-size other-count : ℕ) {t u v : Two} {a b : Answered}
    → PacketSetupBoth E size count other-size other-count t u a → PacketSetupBoth E size count other-size other-count t v b
    → ◌≡◌ {A = Answered × Two} (a, u) (b, v)
one_setup_both E size count other-size other-count p q = p.exact ∙ sym q.exact

one_audit : (E : Edition) (s : Store) (t : Two) (scratch : List ℕ) {left other : List ℕ} {a b : Answered} → PacketAudit E s t scratch left a
    → PacketAudit E s t scratch other b → ◌≡◌ {A = Answered × List ℕ} (a, left) (b, other)
one_audit E s t scratch p q = p.exact ∙ sym q.exact

shown_same : (shown other : List ℕ) → shows shown ≡ shows other → shown ≡ other
shown_same shown other e = cc

-- ---- promises, in any form whose stores fix what it leaves
one_result_in : (E : Edition) (F : Form) → ((v u : F.Left) → F.store v ≡ F.store u → v ≡ u) → PacketOneResult E F
one_result_in E F fixed = record {
  of_setup = λ s size count t beside a b v u p q.
      let same = one_setup E s size count p q in (
        packet_one_value.of_done a b (answers_same same),
        fixed v u (meant_same s (F.store v) (F.store u) beside (ap (λ (x : Answered × Two). x.1) same)),
      );
  of_setup_both = λ size count other-size other-count t a b on ex on-too ex-too p q.
      let same = one_setup_both E size count other-size other-count p q in (
        packet_one_value.of_done a b (answers_same same),
        fixed on on-too (on_chip_same same),
        fixed ex ex-too (external_same same),
      );
  of_take = λ c t a b on ex on-too ex-too p q.
      let same = one_outcome E p q in
      (packet_one_value.of_grant a b (answers_same same), fixed on on-too (on_chip_same same), fixed ex ex-too (external_same same));
  of_back = λ c t a b on ex on-too ex-too p q.
      let same = one_outcome E p q in
      (packet_one_value.of_done a b (answers_same same), fixed on on-too (on_chip_same same), fixed ex ex-too (external_same same));
  of_fill = λ c t a b on ex on-too ex-too p q.
      let same = one_outcome E p q in (
        packet_one_value.of_done a b (answers_same same),
        ap (λ (k : Kept). k.bytes) (on_chip_same same),
        ap (λ (k : Kept). k.bytes) (external_same same),
      );
  of_read = λ c t shown other p q. shown_same shown other (answers_same (one_outcome E p q));
  of_length = λ c t a b p q. packet_one_value.of_length a b (answers_same (one_outcome E p q));
  of_report = λ c t a b p q. packet_one_value.of_report a b (answers_same (one_outcome E p q));
  of_audit = λ s t scratch left other a b p q.
      let same = one_audit E s t scratch p q in
      (packet_one_value.of_done a b (ap (λ (x : Answered × List ℕ). x.0) same), ap (λ (x : Answered × List ℕ). x.1) same);
}

pub one_packet_result : (E : Edition) → PacketOneResultInBoth E
one_packet_result E = record { placed = one_result_in E in_place in_place_fixed; valued = one_result_in E by_value by_value_fixed }
