use Rattle.std.proofs.Common.{ℕ, ◌*◌, List, ap, ◌∙◌, arith}
use Rattle.ciphers.specs.Keys.{cipher_of}
use Rattle.ciphers.proofs.Padding.{start, covers_part, more, done, pads_of}
use Rattle.ciphers.proofs.counter.pad_bytes.Goals as goal

pub loop-i-init : goal.loop-i-init
loop-i-init g c blocks gives = start _ _

pub loop-i-preserved : goal.loop-i-preserved
loop-i-preserved g c blocks gives =
    let E : List ℕ → List ℕ = cipher_of (g.B.Substitute.boxed c.args.boxes.now) c.args.keys.now in
    let P : ℕ → List ℕ = λ i. E (blocks i) in
    more P _ c.loop-i.bytes _ c.loop-i.i _ (c.encrypt-pad.ensures ∙ ap E (gives c.loop-i.i c.block.result (omega arith) c.block.ensures)) (covers_part _ (16 * c.loop-i.i) c.min-end.result c.loop-i.bytes _ (omega arith) c.min-end.ensures c.cover.ensures) (c.loop-i.invariant blocks gives)

pub returns : goal.returns
returns g c blocks gives = pads_of _ _ _ c.requires.range (done _ c.loop-i.bytes _ _ (omega arith) (c.loop-i.invariant blocks gives))
