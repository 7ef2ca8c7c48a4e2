-- Counter blocks of different sectors or indices differ. Assumes nothing.
use Rattle.std.proofs.Common.{◌≡◌, ℕ, zero, suc, ◌-◌, ◌*◌, ◌/◌, ◌%◌, ◌^◌, ◌<◌, List, get_or, take, drop, sym, ap, ◌∙◌, mul_comm, pow-suc, arith, lit<}
use native.Mathlib.Nat.{div-div-eq-div-mul}
use Rattle.std.proofs.lemmas.List.FromFn.{get_or-map-range_with_len}
use Rattle.ciphers.specs.Counter.{big_endian, counter_block, Tells}

-- numbers with the same k digits are the same
same_digits : (k a b : ℕ) → a < 256 ^ k → b < 256 ^ k → ((i : ℕ) → i < k → a / 256 ^ i % 256 ≡ b / 256 ^ i % 256) → a ≡ b
same_digits zero a b ha hb e = omega arith
same_digits (suc k) a b ha hb e =
    let pos : 0 < 256 = lit< tt in
    let below : (n : ℕ) → n < 256 ^ suc k → n / 256 < 256 ^ k = λ n h. let p = pow-suc 256 k in let q : n < 256 ^ k * 256 = omega arith in omega arith in
    let digit : (n i : ℕ) → n / 256 / 256 ^ i % 256 ≡ n / 256 ^ suc i % 256 =
    λ n i. ap (λ (x : ℕ). x % 256) (div-div-eq-div-mul n 256 (256 ^ i) ∙ ap (λ (x : ℕ). n / x) (mul_comm 256 (256 ^ i) ∙ sym (pow-suc 256 i))) in
    let high : a / 256 ≡ b / 256 =
    same_digits k (a / 256) (b / 256) (below a ha) (below b hb) (λ i h. digit a i ∙ e (suc i) (omega arith) ∙ sym (digit b i)) in
    let one : (n : ℕ) → n / 1 ≡ n = λ n. omega arith in
    let low : a % 256 ≡ b % 256 = ap (λ (x : ℕ). x % 256) (sym (one a)) ∙ e 0 (omega arith) ∙ ap (λ (x : ℕ). x % 256) (one b) in omega arith

pub big_endian_tells : (k a b : ℕ) → a < 256 ^ k → b < 256 ^ k → big_endian k a ≡ big_endian k b → a ≡ b
big_endian_tells k a b ha hb e =
    same_digits k a b ha hb (λ i h.
    let j = k - 1 - i in
    let p : k - 1 - j ≡ i = omega arith in
    let digit : ℕ → ℕ → ℕ = λ n t. n / 256 ^ (k - 1 - t) % 256 in
    let at : (n : ℕ) → n / 256 ^ i % 256 ≡ get_or (big_endian k n) j 0 =
    λ n. ap (λ (t : ℕ). n / 256 ^ t % 256) (sym p) ∙ sym (get_or-map-range_with_len (digit n) 0 k j j 0 (omega arith) (omega arith)) in
    at a ∙ ap (λ (l : List ℕ). get_or l j 0) e ∙ sym (at b))

pub counter_block_tells : (name number index : ℕ) → name < 2 ^ 16 → number < 2 ^ 64 → index < 2 ^ 16 → Tells name number index (counter_block name number index)
unfolding counter_block
counter_block_tells name number index hn hm hi name' number' index' hn' hm' hi' e = (
  big_endian_tells 2 name' name hn' hn (ap (take 2) e),
  big_endian_tells 8 number' number hm' hm (ap (λ (l : List ℕ). take 8 (drop 2 l)) e),
  big_endian_tells 2 index' index hi' hi (ap (drop 14) e),
)
