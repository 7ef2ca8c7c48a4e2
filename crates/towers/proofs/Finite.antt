-- More on tests over the numbers below a bound. Assumes nothing.
use Rattle.std.proofs.Common.{◌≡◌, ℕ, zero, suc, ◌<◌, Bool, true, false, T, ◌⊎◌, sym, refl, ◌∙◌, subst, inl, inr, not-suc-le-zero, arith}
use native.Mathlib.Decide.{ℕ_discrete}
use Rattle.rings.proofs.Finite.{each, at, at2}

-- the test passes at some number below the bound
abbrev pub some : ℕ → (ℕ → Bool) → Bool
some zero f = false
some (suc n) f = elim (f n) [ true ↦ true | false ↦ some n f ]

abbrev pub either : Bool → Bool → Bool
either true b = true
either false b = b

pub either_split : (a b : Bool) → T (either a b) → T a ⊎ T b
either_split true b t = inl tt
either_split false b t = inr t

pub at3 : (l m n : ℕ) (f : ℕ → ℕ → ℕ → Bool) → T (each l (λ a. each m (λ b. each n (f a b)))) → (a b c : ℕ) → a < l → b < m → c < n → T (f a b c)
at3 l m n f t a b c ha hb hc = at2 m n (f a) (at l (λ a. each m (λ b. each n (f a b))) t a ha) b c hb hc

-- p in the place of the value n
abbrev move : ℕ → ℕ → ℕ → ℕ
move n p v = elim (ℕ_discrete v n) [ yes e ↦ p | no ne ↦ v ]

moved : (n p v : ℕ) → ((v ≡ n) × (move n p v ≡ p)) ⊎ ((v ≡ n → ⊥) × (move n p v ≡ v))
moved n p v = elim (ℕ_discrete v n) as (λ d. ((v ≡ n) × ((elim d [ yes e ↦ p | no ne ↦ v ]) ≡ p)) ⊎ ((v ≡ n → ⊥) × ((elim d [ yes e ↦ p | no ne ↦ v ]) ≡ v)))
    [ yes e ↦ inl (e, refl) | no ne ↦ inr (ne, refl) ]

-- a map of the numbers below n into themselves that takes no value twice takes every value
pub onto : (n : ℕ) (f : ℕ → ℕ) → ((k : ℕ) → k < n → f k < n) → ((j k : ℕ) → j < n → k < n → f j ≡ f k → j ≡ k)
    → (t : ℕ) → t < n → (k : ℕ) × (k < n) × (f k ≡ t)
onto zero f into once t h = absurd (not-suc-le-zero h)
onto (suc n) f into once t h = elim (ℕ_discrete t (f n)) [
  | yes e ↦ (n, omega arith, sym e)
  | no ne ↦ elim (ℕ_discrete t n) [
    | yes e ↦ (let r = onto n f' into' once' (f n) (omega (arith, into n (omega arith))) in (r.0, omega (arith, r.1), hit e r.0 r.1 r.2))
    | no nt ↦ (let r = onto n f' into' once' t (omega arith) in (r.0, omega (arith, r.1), direct ne r.0 r.1 r.2))
  ]
]
  where
    f' : ℕ → ℕ
    f' k = move n (f n) (f k)

    not_last : (k : ℕ) → k < n → f k ≡ f n → ⊥
    not_last k hk e = omega (arith, once k n (omega arith) (omega arith) e)

    into' : (k : ℕ) → k < n → f' k < n
    into' k hk = elim (moved n (f n) (f k)) [
      | inl w ↦ omega (arith, into n (omega arith), λ (e : f k ≡ f n). not_last k hk e)
      | inr w ↦ omega (arith, into k (omega arith))
    ]

    once' : (j k : ℕ) → j < n → k < n → f' j ≡ f' k → j ≡ k
    once' j k hj hk e = elim (moved n (f n) (f j)) [
      | inl v ↦ elim (moved n (f n) (f k)) [
        | inl w ↦ once j k (omega arith) (omega arith) (v.0 ∙ sym w.0)
        | inr w ↦ absurd (not_last k hk (sym w.1 ∙ sym e ∙ v.1))
      ]
      | inr v ↦ elim (moved n (f n) (f k)) [
        | inl w ↦ absurd (not_last j hj (sym v.1 ∙ e ∙ w.1))
        | inr w ↦ once j k (omega arith) (omega arith) (sym v.1 ∙ e ∙ w.1)
      ]
    ]

    hit : t ≡ n → (k : ℕ) → k < n → f' k ≡ f n → f k ≡ t
    hit e k hk q = elim (moved n (f n) (f k)) [
      | inl w ↦ w.0 ∙ sym e
      | inr w ↦ absurd (not_last k hk (sym w.1 ∙ q))
    ]

    direct : ¬ (t ≡ f n) → (k : ℕ) → k < n → f' k ≡ t → f k ≡ t
    direct ne k hk q = elim (moved n (f n) (f k)) [
      | inl w ↦ absurd (ne (sym q ∙ w.1))
      | inr w ↦ sym w.1 ∙ q
    ]

found_at : (n : ℕ) (f : ℕ → Bool) (b : Bool) → f n ≡ b → (T (some n f) → (k : ℕ) × (k < n) × T (f k))
    → T (elim b [ true ↦ true | false ↦ some n f ]) → (k : ℕ) × (k < suc n) × T (f k)
found_at n f true e r t = (n, omega arith, subst T (sym e) tt)
found_at n f false e r t = let q = r t in (q.0, omega arith, q.2)

pub found : (n : ℕ) (f : ℕ → Bool) → T (some n f) → (k : ℕ) × (k < n) × T (f k)
found zero f t = absurd t
found (suc n) f t = found_at n f (f n) refl (λ s. found n f s) t

pub shown : (n : ℕ) (f : ℕ → Bool) (k : ℕ) → k < n → T (f k) → T (some n f)
shown zero f k h t = absurd (not-suc-le-zero h)
shown (suc n) f k h t = shown_at n f k h t (f n) refl (λ l. shown n f k l t)
  where
    shown_at : (n : ℕ) (f : ℕ → Bool) (k : ℕ) → k < suc n → T (f k) → (b : Bool) → f n ≡ b → (k < n → T (some n f)) → T (elim b [ true ↦ true | false ↦ some n f ])
    shown_at n f k h t true e r = tt
    shown_at n f k h t false e r = elim (ℕ_discrete k n) [
      | yes q ↦ absurd (subst T e (subst (λ (m : ℕ). T (f m)) q t))
      | no ne ↦ r (omega arith)
    ]
