-- One byte more, and none left. Assumes nothing.
use Rattle.std.proofs.Common.{◌≡◌, ℕ, ◌+◌, ◌<◌, List, length, drop, slice_index_or, sym, ◌∙◌, add-one, drop-cons, arith}
use Rattle.std.proofs.Math.Seq.{drop-length}
use Rattle.oracle_lists.specs.declared.classes.Comparison.{Comparison}
use Rattle.oracle_lists.specs.Comparison.{after_byte, after_bytes}
use Rattle.oracle_lists.proofs.classes.Comparison.feed_all.Goals as goal

step : (p q : Comparison) (bytes : List ℕ) (i : ℕ)
    → i < length bytes
    → q ≡ after_byte p (slice_index_or bytes i 0)
    → after_bytes p (drop i bytes) ≡ after_bytes q (drop (i + 1) bytes)
unfolding after_bytes
step p q bytes i h e = rw (add-one, drop-cons bytes i 0, e)

end : (p : Comparison) (bytes : List ℕ) (i : ℕ) → i ≡ length bytes → after_bytes p (drop i bytes) ≡ p
unfolding after_bytes
end p bytes i h = rw (h, drop-length)

pub loop-byte-preserved : goal.loop-byte-preserved
loop-byte-preserved c = c.loop-byte.invariant ∙ step _ _ _ _ c.loop-byte-test.true c.feed-comparison.ensures

pub returns : goal.returns
returns c =
    let all : c.loop-byte.byte-index ≡ length c.args.bytes.now = omega arith in
    sym (c.loop-byte.invariant ∙ end _ _ _ all)
