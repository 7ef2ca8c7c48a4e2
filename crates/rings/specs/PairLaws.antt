-- The ring laws of the pairing over any ring. Assumes nothing.
use Rattle.std.specs.Prelude.{◌≡◌, ℕ, ◌+◌, ◌*◌, ◌/◌, ◌%◌, ◌^◌, ◌<◌, bit_xor}
use Rattle.std.proofs.Common.{sym, ◌∙◌, subst, zero-add, mod-lt, zero-mul, lt_of_lt_of_le, le-add_right, pow_pos, pow_mono, pow-add, shr_lt}
use Rattle.std.proofs.Math.Path.{ap, ap₂}
use Rattle.std.proofs.Math.Nat.{mod-eq_of_lt, div-eq_of_lt}
use Rattle.std.proofs.Math.Arith.{digits_lt}
use Rattle.std.proofs.lemmas.Nat.{xor_comm, xor_mod, xor_shr, xor_block}
use Rattle.std.specs.Int.Bits.{xor_assoc, xor_self, xor_zero_r, xor_lt}
use Rattle.std.proofs.Math.Pow.{split, high, low}
use Rattle.rings.specs.Laws.{Laws, Inverse, Invertible, NoInverse}
use Rattle.rings.specs.Pairing.{lows, schoolbook, pair_mul, form, norm, pair_inverse}
use Rattle.rings.specs.Commuting.{commuting_laws, the_inverse}
use Rattle.rings.specs.PolyLaws.{xor4, xor_equal}

-- ---- the ring below, on any numbers

module _ (w one : ℕ) (mul : ℕ → ℕ → ℕ) (laws : Laws w one mul) where
  abbrev m : ℕ → ℕ → ℕ
  m = lows w mul

  lo_lt : (a : ℕ) → a % 2 ^ w < 2 ^ w
  lo_lt a = mod-lt a (pow_pos w)

  pub m_lt : (a b : ℕ) → m a b < 2 ^ w
  m_lt a b = laws.closed _ _ (lo_lt a) (lo_lt b)

  m_comm : (a b : ℕ) → m a b ≡ m b a
  m_comm a b = laws.comm _ _ (lo_lt a) (lo_lt b)

  m_assoc : (a b c : ℕ) → m (m a b) c ≡ m a (m b c)
  m_assoc a b c =
      ap (λ (x : ℕ). mul x (c % 2 ^ w)) (mod-eq_of_lt (m_lt a b)) ∙ laws.assoc _ _ _ (lo_lt a) (lo_lt b) (lo_lt c)
      ∙ ap (mul (a % 2 ^ w)) (sym (mod-eq_of_lt (m_lt b c)))

  m_xor : (a b c : ℕ) → m a (bit_xor b c) ≡ bit_xor (m a b) (m a c)
  m_xor a b c = ap (mul (a % 2 ^ w)) (xor_mod b c w) ∙ laws.distrib _ _ _ (lo_lt a) (lo_lt b) (lo_lt c)

  m_swap : (a b v : ℕ) → m a (m b v) ≡ m b (m a v)
  m_swap a b v = sym (m_assoc a b v) ∙ ap (λ (x : ℕ). m x v) (m_comm a b) ∙ m_assoc b a v

  m_zero : (a : ℕ) → m a 0 ≡ 0
  m_zero a = ap (m a) (sym (xor_self 0)) ∙ m_xor a 0 0 ∙ xor_self (m a 0)

  one_lt : one < 2 ^ w
  one_lt = laws.one_code

  m_one : (a : ℕ) → a < 2 ^ w → m a one ≡ a
  m_one a h = m_comm a one ∙ ap₂ mul (mod-eq_of_lt one_lt) (mod-eq_of_lt h) ∙ laws.unit a h

  -- ---- pairs of halves

  abbrev hi : ℕ → ℕ
  hi u = u / 2 ^ w

  abbrev lo : ℕ → ℕ
  lo u = u % 2 ^ w

  abbrev pair : ℕ → ℕ → ℕ
  pair h l = h * 2 ^ w + l

  pair_xor : (h k l n : ℕ) → l < 2 ^ w → n < 2 ^ w → pair (bit_xor h k) (bit_xor l n) ≡ bit_xor (pair h l) (pair k n)
  pair_xor h k l n hl hn = sym (xor_block w h k l n hl hn)

  pair_lt : (h l : ℕ) → h < 2 ^ w → l < 2 ^ w → pair h l < 2 ^ (w + w)
  pair_lt h l hh hl = subst (λ (x : ℕ). pair h l < x) (sym (pow-add 2 w w)) (digits_lt hh hl)

  -- r u, for a code r of the ring below
  abbrev scale : ℕ → ℕ → ℕ
  scale r u = pair (m r (hi u)) (m r (lo u))

  scale_pair : (r h l : ℕ) → l < 2 ^ w → scale r (pair h l) ≡ pair (m r h) (m r l)
  scale_pair r h l hl = ap₂ (λ (x y : ℕ). pair (m r x) (m r y)) (high h w hl) (low h w hl)

  scale_xor : (r u v : ℕ) → scale r (bit_xor u v) ≡ bit_xor (scale r u) (scale r v)
  scale_xor r u v =
      ap₂ (λ (x y : ℕ). pair (m r x) (m r y)) (xor_shr u v w) (xor_mod u v w)
      ∙ ap₂ pair (m_xor r (hi u) (hi v)) (m_xor r (lo u) (lo v))
      ∙ pair_xor (m r (hi u)) (m r (hi v)) (m r (lo u)) (m r (lo v)) (m_lt r (lo u)) (m_lt r (lo v))

  scale_swap : (r s u : ℕ) → scale r (scale s u) ≡ scale s (scale r u)
  scale_swap r s u =
      scale_pair r (m s (hi u)) (m s (lo u)) (m_lt s (lo u)) ∙ ap₂ pair (m_swap r s (hi u)) (m_swap r s (lo u))
      ∙ sym (scale_pair s (m r (hi u)) (m r (lo u)) (m_lt r (lo u)))

  scale_lt : (r u : ℕ) → scale r u < 2 ^ (w + w)
  scale_lt r u = pair_lt (m r (hi u)) (m r (lo u)) (m_lt r (hi u)) (m_lt r (lo u))

  -- ---- the pairing with the constant c

  module _ (c : ℕ) where
    -- Y u
    abbrev times_y : ℕ → ℕ
    times_y u = pair (bit_xor (hi u) (lo u)) (m c (hi u))

    y_pair : (h l : ℕ) → l < 2 ^ w → times_y (pair h l) ≡ pair (bit_xor h l) (m c h)
    y_pair h l hl = ap₂ (λ (x y : ℕ). pair (bit_xor x y) (m c x)) (high h w hl) (low h w hl)

    y_xor : (u v : ℕ) → times_y (bit_xor u v) ≡ bit_xor (times_y u) (times_y v)
    y_xor u v =
        ap₂ (λ (x y : ℕ). pair (bit_xor x y) (m c x)) (xor_shr u v w) (xor_mod u v w)
        ∙ ap₂ pair (xor4 (hi u) (hi v) (lo u) (lo v)) (m_xor c (hi u) (hi v))
        ∙ pair_xor (bit_xor (hi u) (lo u)) (bit_xor (hi v) (lo v)) (m c (hi u)) (m c (hi v)) (m_lt c (hi u)) (m_lt c (hi v))

    scale_y : (r u : ℕ) → scale r (times_y u) ≡ times_y (scale r u)
    scale_y r u =
        scale_pair r (bit_xor (hi u) (lo u)) (m c (hi u)) (m_lt c (hi u))
        ∙ ap₂ pair (m_xor r (hi u) (lo u)) (m_swap r c (hi u))
        ∙ sym (y_pair (m r (hi u)) (m r (lo u)) (m_lt r (lo u)))

    -- (a1 Y + a0) u
    abbrev act2 : ℕ → ℕ → ℕ
    act2 a u = bit_xor (scale (lo a) u) (scale (hi a) (times_y u))

    act2_xor : (a u v : ℕ) → act2 a (bit_xor u v) ≡ bit_xor (act2 a u) (act2 a v)
    act2_xor a u v =
        ap₂ bit_xor (scale_xor (lo a) u v)
        (ap (scale (hi a)) (y_xor u v) ∙ scale_xor (hi a) (times_y u) (times_y v))
        ∙ xor4 (scale (lo a) u) (scale (lo a) v) (scale (hi a) (times_y u)) (scale (hi a) (times_y v))

    -- a (b u), term by term
    act2_terms : (a b u : ℕ) → act2 a (act2 b u)
        ≡ bit_xor (bit_xor (scale (lo a) (scale (lo b) u)) (scale (lo a) (scale (hi b) (times_y u))))
        (bit_xor (scale (hi a) (scale (lo b) (times_y u))) (scale (hi a) (scale (hi b) (times_y (times_y u)))))
    act2_terms a b u =
        ap₂ bit_xor (scale_xor (lo a) (scale (lo b) u) (scale (hi b) (times_y u)))
        (ap (scale (hi a)) (y_xor (scale (lo b) u) (scale (hi b) (times_y u))
        ∙ ap₂ bit_xor (sym (scale_y (lo b) u)) (sym (scale_y (hi b) (times_y u))))
        ∙ scale_xor (hi a) (scale (lo b) (times_y u)) (scale (hi b) (times_y (times_y u))))

    act2_comm : (a b u : ℕ) → act2 a (act2 b u) ≡ act2 b (act2 a u)
    act2_comm a b u =
        let y = times_y u in
        act2_terms a b u
        ∙ xor4 (scale (lo a) (scale (lo b) u)) (scale (lo a) (scale (hi b) y)) (scale (hi a) (scale (lo b) y)) (scale (hi a) (scale (hi b) (times_y y)))
        ∙ ap₂ bit_xor (ap₂ bit_xor (scale_swap (lo a) (lo b) u) (scale_swap (hi a) (lo b) y))
        (ap₂ bit_xor (scale_swap (lo a) (hi b) y) (scale_swap (hi a) (hi b) (times_y y)))
        ∙ sym (act2_terms b a u)

    act2_lt : (a u : ℕ) → act2 a u < 2 ^ (w + w)
    act2_lt a u = xor_lt (w + w) (scale (lo a) u) (scale (hi a) (times_y u)) (scale_lt (lo a) u) (scale_lt (hi a) (times_y u))

    y_one : times_y one ≡ pair one 0
    y_one = ap₂ (λ (x y : ℕ). pair (bit_xor x y) (m c x)) (div-eq_of_lt one_lt) (mod-eq_of_lt one_lt) ∙ ap₂ pair (xor_comm 0 one ∙ xor_zero_r one) (m_zero c)

    act2_one : (a : ℕ) → a < 2 ^ (w + w) → act2 a one ≡ a
    act2_one a h =
        ap₂ bit_xor
        (ap₂ (λ (x y : ℕ). pair (m (lo a) x) (m (lo a) y)) (div-eq_of_lt one_lt) (mod-eq_of_lt one_lt)
        ∙ ap₂ pair (m_zero (lo a)) (m_one (lo a) (lo_lt a)))
        (ap (scale (hi a)) y_one ∙ scale_pair (hi a) one 0 (pow_pos w) ∙ ap₂ pair (m_one (hi a) (shr_lt w w h)) (m_zero (hi a)))
        ∙ sym (pair_xor 0 (hi a) (lo a) 0 (lo_lt a) (pow_pos w))
        ∙ ap (pair (hi a)) (xor_zero_r (lo a)) ∙ split a w

    pair_mul_act : (a b : ℕ) → pair_mul w mul c a b ≡ act2 a b
    unfolding pair_mul
    pair_mul_act a b =
        ap₂ pair
        (xor_comm (bit_xor (m (hi a) (hi b)) (m (hi a) (lo b))) (m (lo a) (hi b)) ∙ ap (bit_xor (m (lo a) (hi b))) (sym (m_xor (hi a) (hi b) (lo b))))
        (ap (bit_xor (m (lo a) (lo b))) (m_swap c (hi a) (hi b)))
        ∙ pair_xor (m (lo a) (hi b)) (m (hi a) (bit_xor (hi b) (lo b))) (m (lo a) (lo b)) (m (hi a) (m c (hi b))) (m_lt (lo a) (lo b)) (m_lt (hi a) (m c (hi b)))
        ∙ ap (bit_xor (scale (lo a) b)) (sym (scale_pair (hi a) (bit_xor (hi b) (lo b)) (m c (hi b)) (m_lt c (hi b))))

    pub pair_laws : Laws (w + w) one (pair_mul w mul c)
    pair_laws =
        subst (Laws (w + w) one) (λ i a b. sym (pair_mul_act a b) i)
        (commuting_laws (w + w) one (lt_of_lt_of_le one_lt (pow_mono (le-add_right w w))) act2 (λ a u ha hu. act2_lt a u) act2_xor act2_comm act2_one)

    -- ---- the norm and the inverse

    m_xor_l : (a b v : ℕ) → m (bit_xor a b) v ≡ bit_xor (m a v) (m b v)
    m_xor_l a b v = m_comm (bit_xor a b) v ∙ m_xor v a b ∙ ap₂ bit_xor (m_comm v a) (m_comm v b)

    form_lt : (r1 r0 : ℕ) → form m c r1 r0 < 2 ^ w
    form_lt r1 r0 = xor_lt w _ _ (xor_lt w _ _ (m_lt r0 r0) (m_lt r0 r1)) (m_lt c (m r1 r1))

    -- the norm times v
    form_act : (r1 r0 v : ℕ) → m (form m c r1 r0) v ≡ bit_xor (m r0 (bit_xor (m r0 v) (m r1 v))) (m r1 (m c (m r1 v)))
    form_act r1 r0 v =
        m_xor_l (bit_xor (m r0 r0) (m r0 r1)) (m c (m r1 r1)) v
        ∙ ap₂ bit_xor
        (m_xor_l (m r0 r0) (m r0 r1) v ∙ ap₂ bit_xor (m_assoc r0 r0 v) (m_assoc r0 r1 v) ∙ sym (m_xor r0 (m r0 v) (m r1 v)))
        (m_assoc c (m r1 r1) v ∙ ap (m c) (m_assoc r1 r1 v) ∙ m_swap c r1 (m r1 v))

    -- (x + y) + x = y
    xor_back : (x y : ℕ) → bit_xor (bit_xor x y) x ≡ y
    xor_back x y = xor_comm (bit_xor x y) x ∙ sym (xor_assoc x x y) ∙ ap (λ (z : ℕ). bit_xor z y) (xor_self x)

    inverse_of : (r1 r0 k : ℕ) → m (form m c r1 r0) k ≡ one
        → schoolbook w m c r1 r0 (m r1 k) (m (bit_xor r0 r1) k) ≡ one
    inverse_of r1 r0 k e =
        let s : m (bit_xor r0 r1) k ≡ bit_xor (m r0 k) (m r1 k) = m_xor_l r0 r1 k in
        ap₂ pair
        (ap (λ (x : ℕ). bit_xor x (m r0 (m r1 k)))
        (sym (m_xor r1 (m r1 k) (m (bit_xor r0 r1) k))
        ∙ ap (m r1) (ap (bit_xor (m r1 k)) s ∙ xor_comm (m r1 k) (bit_xor (m r0 k) (m r1 k))
        ∙ xor_assoc (m r0 k) (m r1 k) (m r1 k) ∙ ap (bit_xor (m r0 k)) (xor_self (m r1 k)) ∙ xor_zero_r (m r0 k))
        ∙ m_swap r1 r0 k)
        ∙ xor_self (m r0 (m r1 k)))
        (ap₂ bit_xor (ap (m r0) s) (m_swap c r1 (m r1 k)) ∙ sym (form_act r1 r0 k) ∙ e)
        ∙ ap (λ (x : ℕ). x + one) (zero-mul (2 ^ w)) ∙ zero-add one

    pub pair_has_inverse : (a k : ℕ) → a < 2 ^ (w + w) → Inverse w one mul (norm w mul c a % 2 ^ w) k
        → Inverse (w + w) one (pair_mul w mul c) a (pair_inverse w mul a k)
    unfolding norm pair_inverse pair_mul
    pair_has_inverse a k ha inv =
        the_inverse (w + w) one (pair_mul w mul c) pair_laws a (pair_inverse w mul a k) ha
        (pair_lt _ _ (m_lt (hi a) k) (m_lt (bit_xor (lo a) (hi a)) k))
        (ap₂ (schoolbook w m c (hi a) (lo a)) (high (m (hi a) k) w (m_lt (bit_xor (lo a) (hi a)) k)) (low (m (hi a) k) w (m_lt (bit_xor (lo a) (hi a)) k))
        ∙ inverse_of (hi a) (lo a) k (ap (mul (form m c (hi a) (lo a) % 2 ^ w)) (mod-eq_of_lt inv.code) ∙ inv.product))

    -- where a b is the one, the norms are inverse to each other
    norms : (a1 a0 b1 b0 : ℕ) → a1 < 2 ^ w → a0 < 2 ^ w
        → bit_xor (bit_xor (m a1 b1) (m a1 b0)) (m a0 b1) ≡ 0 → bit_xor (m a0 b0) (m c (m a1 b1)) ≡ one
        → m (form m c a1 a0) (form m c b1 b0) ≡ one
    norms a1 a0 b1 b0 h1 h0 e1 e0 =
        let n = form m c a1 a0 in
        let f : bit_xor (m a1 b1) (m a1 b0) ≡ m a0 b1 = xor_equal _ _ e1 in
        -- n b1 = a1
        let p : m n b1 ≡ a1 =
        form_act a1 a0 b1
        ∙ ap (λ (x : ℕ). bit_xor (m a0 x) (m a1 (m c (m a1 b1))))
        (ap (λ (x : ℕ). bit_xor x (m a1 b1)) (sym f) ∙ xor_back (m a1 b1) (m a1 b0))
        ∙ ap (λ (x : ℕ). bit_xor x (m a1 (m c (m a1 b1)))) (m_swap a0 a1 b0)
        ∙ sym (m_xor a1 (m a0 b0) (m c (m a1 b1))) ∙ ap (m a1) e0 ∙ m_one a1 h1 in
        -- n (b0 + b1) = a0
        let g : m a1 (bit_xor b0 b1) ≡ m a0 b1 = m_xor a1 b0 b1 ∙ xor_comm (m a1 b0) (m a1 b1) ∙ f in
        let q : m n (bit_xor b0 b1) ≡ a0 =
        form_act a1 a0 (bit_xor b0 b1)
        ∙ ap₂ (λ (x y : ℕ). bit_xor (m a0 x) (m a1 (m c y)))
        (ap₂ bit_xor (m_xor a0 b0 b1 ∙ xor_comm (m a0 b0) (m a0 b1)) g ∙ xor_back (m a0 b1) (m a0 b0)) g
        ∙ ap (bit_xor (m a0 (m a0 b0))) (ap (m a1) (m_swap c a0 b1) ∙ m_swap a1 a0 (m c b1) ∙ ap (m a0) (m_swap a1 c b1))
        ∙ sym (m_xor a0 (m a0 b0) (m c (m a1 b1))) ∙ ap (m a0) e0 ∙ m_one a0 h0 in
        m_xor n (bit_xor (m b0 b0) (m b0 b1)) (m c (m b1 b1))
        ∙ ap₂ bit_xor
        (ap (m n) (sym (m_xor b0 b0 b1) ∙ m_comm b0 (bit_xor b0 b1)) ∙ sym (m_assoc n (bit_xor b0 b1) b0) ∙ ap (λ (x : ℕ). m x b0) q)
        (m_swap n c (m b1 b1) ∙ ap (m c) (sym (m_assoc n b1 b1) ∙ ap (λ (x : ℕ). m x b1) p))
        ∙ e0

    pub norm_lt : (a : ℕ) → norm w mul c a < 2 ^ w
    unfolding norm
    norm_lt a = form_lt (hi a) (lo a)

    -- the norm of an inverse is the norm's inverse
    norm_of_inverse : (a b : ℕ) → a < 2 ^ (w + w) → pair_mul w mul c a b ≡ one → mul (norm w mul c a) (norm w mul c b) ≡ one
    unfolding norm pair_mul
    norm_of_inverse a b ha e =
        let H = bit_xor (bit_xor (m (hi a) (hi b)) (m (hi a) (lo b))) (m (lo a) (hi b)) in
        let L = bit_xor (m (lo a) (lo b)) (m c (m (hi a) (hi b))) in
        let hL : L < 2 ^ w = xor_lt w _ _ (m_lt (lo a) (lo b)) (m_lt c (m (hi a) (hi b))) in
        ap₂ mul (sym (mod-eq_of_lt (form_lt (hi a) (lo a)))) (sym (mod-eq_of_lt (form_lt (hi b) (lo b))))
        ∙ norms (hi a) (lo a) (hi b) (lo b) (shr_lt w w ha) (lo_lt a)
        (sym (high H w hL) ∙ ap hi e ∙ div-eq_of_lt one_lt)
        (sym (low H w hL) ∙ ap lo e ∙ mod-eq_of_lt one_lt)

    pub pair_no_inverse : (a : ℕ) → a < 2 ^ (w + w) → NoInverse w one mul (norm w mul c a) → NoInverse (w + w) one (pair_mul w mul c) a
    pair_no_inverse a ha none b hb e = none (norm w mul c b) (norm_lt b) (norm_of_inverse a b ha e)

    pub norm_invertible : (a : ℕ) → a < 2 ^ (w + w) → Invertible (w + w) one (pair_mul w mul c) a → Invertible w one mul (norm w mul c a)
    norm_invertible a ha i =
        (norm w mul c i.0, the_inverse w one mul laws _ _ (norm_lt a) (norm_lt i.0) (norm_of_inverse a i.0 ha i.1.product))

    pub invertible_norm : (a : ℕ) → a < 2 ^ (w + w) → Invertible w one mul (norm w mul c a) → Invertible (w + w) one (pair_mul w mul c) a
    invertible_norm a ha i =
        (pair_inverse w mul a i.0, pair_has_inverse a i.0 ha (subst (λ (x : ℕ). Inverse w one mul x i.0) (sym (mod-eq_of_lt (norm_lt a))) i.1))
