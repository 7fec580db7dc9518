-- Any two results of the packet calls coincide; proofs/OneResult.antt makes it. Assumes nothing.
use Rattle.std.specs.Prelude.{List, ℕ}
use Rattle.tables.specs.Words.{Edition}
use Rattle.packets.specs.declared.Store.{Store}
use Rattle.packets.specs.Stores.{Kept, Two}
use Rattle.packets.specs.Calls.{PacketCall, Answered}
use Rattle.packets.specs.Promise.{PacketPromise, PacketSetupBoth, PacketAudit}
use Rattle.host_values.specs.OneResult.{OneOutcome}
use Rattle.host_packets.specs.Kept.{SetUpAnywhere}
use Rattle.host_packets.specs.Flat.{ReadInto}

pub record OneOfPackets (E : Edition) : Type 0 where
  pub of_call : (c : PacketCall) (t : Two) → OneOutcome (PacketPromise E c t)
  pub of_setup_both : (size count size-too count-too : ℕ) (t : Two) → OneOutcome (PacketSetupBoth E size count size-too count-too t)
  pub of_audit : (s : Store) (t : Two) (scratch : List ℕ) → OneOutcome (PacketAudit E s t scratch)
  pub of_setup : (size count : ℕ) (found : Kept) (beside bytes-beside : List ℕ)
      → OneOutcome {A = Answered} {Left = Kept} (λ left. SetUpAnywhere E size count found left beside bytes-beside)
  pub of_read : (c : PacketCall) (t : Two) (out : List ℕ) → OneOutcome {A = List ℕ} {Left = List ℕ} (ReadInto E c t out)
