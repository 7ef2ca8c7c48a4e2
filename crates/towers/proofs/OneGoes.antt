-- A lawful map takes the one to 1. Assumes nothing.
use Rattle.std.proofs.Common.{◌≡◌, ℕ, ◌<◌, sym, ap, ◌∙◌, arith, lit<}
use Rattle.rings.specs.Laws.{Laws}
use Rattle.rings.specs.PairLaws.{pair_laws}
use Rattle.towers.specs.Lawful.{Lawful}
use Rattle.towers.proofs.Finite.{onto}

-- some code goes to 1, and the one times it is it
pub one_goes : (one : ℕ) (mul : ℕ → ℕ → ℕ) → Laws 4 one mul → (oct : ℕ → ℕ → ℕ) → Laws 8 1 oct → (c : ℕ) (m : ℕ → ℕ) → Lawful mul oct c m → m one ≡ 1
one_goes one mul R oct E c m L =
    let k = onto 256 m L.byte L.once 1 (lit< tt) in
    let w : one < 256 = omega (arith, R.one_code) in
    let h : m one < 256 = L.byte one w in
    sym (E.comm (m one) 1 h (lit< tt) ∙ E.unit (m one) h) ∙ ap (oct (m one)) (sym k.2)
    ∙ sym (L.keeps one k.0 w k.1) ∙ ap m ((pair_laws 4 one mul R c).unit k.0 k.1) ∙ k.2
