-- A promise fixes its answer and what it leaves. Assumes nothing.
use mathlib.Core.Path.{sym, ap, ◌∙◌}
use mathlib.Core.List.{List, []}
use Prim.Native.Nat.{ℕ}
use Rattle.tables.specs.Words.{Edition}
use Rattle.packets.specs.declared.Store.TheVariants.{OnChip}
use Rattle.packets.specs.Stores.{Kept, Two}
use Rattle.packets.specs.Calls.{PacketCall, Answered, packet, shows, plain, packet_words, set_up_both_words, audit_in, plainly}
use Rattle.packets.specs.Promise.{PacketPromise, PacketSetupBoth, PacketAudit}
use Rattle.host_values.specs.OneResult.{OneOutcome}
use Rattle.host_values.proofs.OneResult.{by_model}
use Rattle.host_packets.specs.Kept.{SetUpAnywhere}
use Rattle.host_packets.specs.Flat.{ReadInto, fronted}
use Rattle.host_packets.specs.OneResult.{OneOfPackets}

-- the two stores of a setup, of which the other is any
one_setup : (E : Edition) (size count : ℕ) (found : Kept) (beside bytes-beside : List ℕ)
    → OneOutcome {A = Answered} {Left = Kept} (λ left. SetUpAnywhere E size count found left beside bytes-beside)
one_setup E size count found beside bytes-beside v u a b p q =
    let same = (p OnChip [] [] [] []).exact ∙ sym (q OnChip [] [] [] []).exact in
    (ap (λ (x : Answered × Two). x.0) same, ap (λ (x : Answered × Two). x.1.on_chip) same)

abbrev bytes_in : Answered → List ℕ
bytes_in (packet s o r) = []
bytes_in (shows bytes) = bytes
bytes_in (plain a) = []

one_read : (E : Edition) (c : PacketCall) (t : Two) (out : List ℕ) → OneOutcome {A = List ℕ} {Left = List ℕ} (ReadInto E c t out)
one_read E c t out v u shown other p q =
    let same = ap (λ (x : Answered × Two). bytes_in x.0) (p.read.exact ∙ sym q.read.exact) in
    (same, p.copied ∙ ap (λ (x : List ℕ). fronted x out) same ∙ sym q.copied)

pub one_of_packets : (E : Edition) → OneOfPackets E
one_of_packets E = record {
  of_call = λ c t. by_model (PacketPromise E c t) (packet_words E c t) (λ u a p. p.exact);
  of_setup_both = λ size count size-too count-too t. by_model (PacketSetupBoth E size count size-too count-too t)
      (set_up_both_words E size count size-too count-too t) (λ u a p. p.exact);
  of_audit = λ s t scratch. by_model (PacketAudit E s t scratch) (plainly (audit_in E s t scratch)) (λ left a p. p.exact);
  of_setup = one_setup E;
  of_read = one_read E;
}
