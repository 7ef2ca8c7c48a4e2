use Rattle.std.proofs.Common.{ℕ, List, [], ◌∷◌, get_or, ap, ◌∙◌, subst, arith}
use lib.Bits.{bit_xor}
use Rattle.ciphers.specs.Sm4.{tau, linear_key}
use Rattle.ciphers.proofs.Sm4Steps.{Sofar, keys_none, keys_more, keys_all, words_all}
use Rattle.ciphers.proofs.sm4.expand.Goals as goal

pub loop-i-init : goal.loop-i-init
loop-i-init g c = keys_none _ _ _

pub loop-i-preserved : goal.loop-i-preserved
loop-i-preserved g c =
    let box = g.B.Substitute.boxed c.args.boxes.now in
    let x = c.loop-i.x in
    let mixed : ℕ → ℕ = λ k. tau box (bit_xor (bit_xor (bit_xor (get_or x 1 0) (get_or x 2 0)) (get_or x 3 0)) k) in
    let next : ℕ → List ℕ = λ v. get_or x 1 0 ∷ get_or x 2 0 ∷ get_or x 3 0 ∷ bit_xor (get_or x 0 0) v ∷ [] in
    keys_more _ _ x _ c.loop-i.work _ _ c.loop-i.i (omega arith)
    (ap next (c.spread_key.ensures ∙ ap linear_key (c.mixed.ensures ∙ ap mixed c.constant.ensures))) (omega arith)
    c.write_word.ensures c.loop-i.invariant

pub returns : goal.returns
returns g c =
    let box = g.B.Substitute.boxed c.args.boxes.now in
    let inv = subst (λ first. Sofar box first c.loop-i.x c.loop-i.work c.loop-i.i c.args.work.now) c.first_key_words-x.ensures c.loop-i.invariant in
    record {
      held = keys_all box c.args.key.now c.loop-i.x c.loop-i.work c.loop-i.i _ (omega arith) inv;
      words = words_all box c.args.key.now c.loop-i.x c.loop-i.work c.loop-i.i _ (omega arith) inv;
    }
