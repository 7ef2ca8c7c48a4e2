-- Every lawful pair is the one at its bytes of g and of Y. Assumes nothing.
use Rattle.std.proofs.Common.{◌≡◌, ℕ, ◌+◌, ◌*◌, ◌/◌, ◌%◌, ◌<◌, [], ◌∷◌, sym, ap, ◌∙◌, ap₂, add-zero, zero-add, arith, lit<}
use lib.Bits.{bit_xor, xor_zero_r, xor_comm, xor_shifted}
use Rattle.rings.specs.Laws.{Laws}
use Rattle.towers.specs.Lawful.{Lawful}
use Rattle.towers.specs.Place.{IsRoot, image, Serves}
use Rattle.towers.specs.Matrices.{apply}
use Rattle.towers.proofs.Linear.{adds_zero}
use Rattle.towers.proofs.Root.{times_zero}
use Rattle.towers.proofs.Swap.{one_pos}
use Rattle.towers.proofs.Iso.{image_lt, image_adds, image_one, image_2, image_4, image_8, agree}
use Rattle.towers.proofs.Index.{reached, Coords, phi_back, back_lt}
use Rattle.towers.proofs.OneGoes.{one_goes}
use Rattle.towers.proofs.Halves.{tower, tower_is}

module _ (one : ℕ) (mul : ℕ → ℕ → ℕ) (R : Laws 4 one mul) (g : ℕ) (hg : g < 16) (root : IsRoot one mul g)
    (oct : ℕ → ℕ → ℕ) (E : Laws 8 1 oct)
    (c : ℕ) (m : ℕ → ℕ) (L : Lawful mul oct c m) where
  zero_times : (a : ℕ) → a < 16 → mul 0 a ≡ 0
  zero_times a h = R.comm 0 a (lit< tt) h ∙ times_zero one mul R a h

  wide : (a : ℕ) → a < 16 → a < 256
  wide a h = omega arith

  -- the tower's product by the halves
  halves : (a1 a0 b1 b0 : ℕ) (a b : ℕ) → a / 16 ≡ a1 → a % 16 ≡ a0 → b / 16 ≡ b1 → b % 16 ≡ b0 →
      tower mul c a b ≡ bit_xor (mul a1 b1) (bit_xor (mul a1 b0) (mul a0 b1)) * 16 + bit_xor (mul a0 b0) (mul c (mul a1 b1))
  halves a1 a0 b1 b0 a b p q r s i =
      bit_xor (mul (p i) (r i)) (bit_xor (mul (p i) (s i)) (mul (q i) (r i))) * 16 + bit_xor (mul (q i) (s i)) (mul c (mul (p i) (r i)))

  times0 : (a : ℕ) → a < 16 → mul a 0 ≡ 0
  times0 = times_zero one mul R

  -- codes of the field among themselves, and the one times Y
  inner : (a b : ℕ) → a < 16 → b < 16 → tower mul c a b ≡ mul a b
  inner a b ha hb =
      halves 0 a 0 b a b (omega arith) (omega arith) (omega arith) (omega arith)
      ∙ rw (zero_times 0 (lit< tt), zero_times b hb, times0 a ha, times0 c L.const, xor_zero_r (mul a b)) (zero-add (mul a b))

  outer : (a : ℕ) → a < 16 → tower mul c (one * 16) a ≡ a * 16
  outer a ha =
      halves one 0 0 a (one * 16) a (omega arith) (omega arith) (omega arith) (omega arith)
      ∙ rw (times0 one R.one_code, R.unit a ha, zero_times 0 (lit< tt), zero_times a ha, times0 c L.const, xor_zero_r a) (add-zero (a * 16))

  square : tower mul c (one * 16) (one * 16) ≡ bit_xor (one * 16) c
  square =
      halves one 0 one 0 (one * 16) (one * 16) (omega arith) (omega arith) (omega arith) (omega arith)
      ∙ rw (R.unit one R.one_code, times0 one R.one_code, zero_times one R.one_code, zero_times 0 (lit< tt), xor_zero_r one, R.comm c one L.const R.one_code, R.unit c L.const) (sym (xor_shifted one 4 c L.const))

  m_zero : m 0 ≡ 0
  m_zero = adds_zero 8 m L.adds

  keeps : (a b : ℕ) → a < 256 → b < 256 → m (tower mul c a b) ≡ oct (m a) (m b)
  keeps a b ha hb = ap m (sym (tower_is one mul R c L.const a b ha hb)) ∙ L.keeps a b ha hb

  m_keeps : (a b : ℕ) → a < 16 → b < 16 → m (mul a b) ≡ oct (m a) (m b)
  m_keeps a b ha hb = ap m (sym (inner a b ha hb)) ∙ keeps a b (wide a ha) (wide b hb)

  m_one : m one ≡ 1
  m_one = one_goes one mul R oct E c m L

  g2 : mul g g < 16
  g2 = R.closed g g hg hg

  m_root : IsRoot 1 oct (m g)
  m_root =
      ap₂ oct (sym (m_keeps g g hg hg)) (sym (m_keeps g g hg hg)) ∙ sym (m_keeps (mul g g) (mul g g) g2 g2)
      ∙ ap m root ∙ L.adds g one (wide g hg) (wide one R.one_code) ∙ ap (bit_xor (m g)) m_one

  m_image : (u : ℕ) → u < 16 → m (image one mul g u) ≡ image 1 oct (m g) u
  m_image = agree (λ u. m (image one mul g u)) (image 1 oct (m g))
      (λ a b ha hb. ap m (image_adds 4 one mul R g hg root a b)
      ∙ L.adds (image one mul g a) (image one mul g b) (wide (image one mul g a) (image_lt 4 one mul R g hg root a)) (wide (image one mul g b) (image_lt 4 one mul R g hg root b)))
      (λ a b ha hb. image_adds 8 1 oct E (m g) hr m_root a b)
      (ap m (image_one 4 one mul R g hg root) ∙ m_one ∙ sym (image_one 8 1 oct E (m g) hr m_root))
      (ap m (image_2 4 one mul R g hg root) ∙ sym (image_2 8 1 oct E (m g) hr m_root))
      (ap m (image_4 4 one mul R g hg root) ∙ m_keeps g g hg hg ∙ sym (image_4 8 1 oct E (m g) hr m_root))
      (ap m (image_8 4 one mul R g hg root) ∙ m_keeps g (mul g g) hg g2 ∙ ap (oct (m g)) (m_keeps g g hg hg) ∙ sym (image_8 8 1 oct E (m g) hr m_root))
    where
      hr : m g < 256
      hr = L.byte g (wide g hg)

  Y : one * 16 < 256
  Y = omega (arith, R.one_code)

  pub serves : (u : ℕ) × Serves oct (m g) (m (one * 16)) u × (image one mul g u ≡ c)
  serves =
      let k = reached one mul R g hg root c L.const in (
        k.0,
        record {
          lr = L.byte g (wide g hg);
          root = m_root;
          ly = L.byte (one * 16) Y;
          lu = k.1;
          square = sym (keeps (one * 16) (one * 16) Y Y) ∙ ap m square ∙ L.adds (one * 16) c Y (wide c L.const) ∙ ap (bit_xor (m (one * 16))) (ap m (sym k.2) ∙ m_image k.0 k.1);
          new = λ v hv e.
              let w : image one mul g v < 16 = image_lt 4 one mul R g hg root v in
              let q : image one mul g v ≡ one * 16 = L.once (image one mul g v) (one * 16) (wide (image one mul g v) w) Y (m_image v hv ∙ e) in
              omega (arith, one_pos one mul R);
        },
        k.2,
      )

  pub same : (u1 u2 u4 u8 : ℕ) → Coords (image one mul g) u1 u2 u4 u8 → (a : ℕ) → a < 256 →
      m a ≡ bit_xor (image 1 oct (m g) (apply (u1 ∷ u2 ∷ u4 ∷ u8 ∷ []) (a % 16))) (oct (m (one * 16)) (image 1 oct (m g) (apply (u1 ∷ u2 ∷ u4 ∷ u8 ∷ []) (a / 16))))
  same u1 u2 u4 u8 U a ha =
      let p : a / 16 < 16 = omega arith in
      let q : a % 16 < 16 = omega arith in
      let b : a / 16 * 16 < 256 = omega arith in
      ap m (sym (xor_shifted (a / 16) 4 (a % 16) q ∙ omega arith))
      ∙ L.adds (a / 16 * 16) (a % 16) b (wide (a % 16) q)
      ∙ xor_comm (m (a / 16 * 16)) (m (a % 16))
      ∙ ap₂ bit_xor (small (a % 16) q) (ap m (sym (outer (a / 16) p)) ∙ keeps (one * 16) (a / 16) Y (wide (a / 16) p) ∙ ap (oct (m (one * 16))) (small (a / 16) p))
    where
      small : (v : ℕ) → v < 16 → m v ≡ image 1 oct (m g) (apply (u1 ∷ u2 ∷ u4 ∷ u8 ∷ []) v)
      small v hv = ap m (sym (phi_back one mul R g hg root u1 u2 u4 u8 U v hv)) ∙ m_image (apply (u1 ∷ u2 ∷ u4 ∷ u8 ∷ []) v) (back_lt one mul R g hg root u1 u2 u4 u8 U v)
