-- A ring and an octic have one pair that is kept. Assumes nothing.
use Rattle.std.proofs.Common.{◌≡◌, ℕ, ◌<◌, [], ◌∷◌, sym, refl, ap, ◌∙◌, inl, inr, lit<}
use Rattle.towers.specs.Lawful.{Reverse}
use Rattle.towers.specs.Matrices.{columns}
use Rattle.towers.specs.Keeps.{Keeps}
use Rattle.towers.specs.declared.pair.Pair.{Pair}
use Rattle.towers.proofs.Linear.{same_columns}
use Rattle.towers.proofs.Order.{before_never, before_then, moved}

-- two maps give the same byte at every byte
abbrev pub Same : (ℕ → ℕ) → (ℕ → ℕ) → Type 0
Same m n = (a : ℕ) → a < 256 → m a ≡ n a

pub columns_same : (m n : ℕ → ℕ) → Same m n → columns m ≡ columns n
columns_same m n s i = s 1 (lit< tt) i ∷ s 2 (lit< tt) i ∷ s 4 (lit< tt) i ∷ s 8 (lit< tt) i ∷ s 16 (lit< tt) i ∷ s 32 (lit< tt) i ∷ s 64 (lit< tt) i ∷ s 128 (lit< tt) i ∷ []

-- a map has one reverse map
pub reverse_same : (f h m n : ℕ → ℕ) → Same f h → Reverse f m → Reverse h n → Same m n
reverse_same f h m n s M N b hb =
    sym (ap m (s (n b) (N.byte b hb) ∙ N.there b hb)) ∙ M.back (n b) (N.byte b hb)

pair_same : (p q : Pair) → p.constant ≡ q.constant → p.ones ≡ q.ones → p.columns ≡ q.columns → p.reverse ≡ q.reverse → p ≡ q
pair_same p q c o f b i = record { constant = c i; ones = o i; columns = f i; reverse = b i }

pub kept_once : (mul : ℕ → ℕ → ℕ) (octic : ℕ) (p q : Pair) → Keeps mul octic p → Keeps mul octic q → p ≡ q
kept_once mul octic p q P Q =
    let T = P.tells in
    let U = Q.tells in
    elim (P.least q.constant U.map U.back U.lawful U.reversed) [
      | inl e ↦
          let s : Same T.map U.map = same_columns T.map U.map T.lawful.adds U.lawful.adds (sym T.columns ∙ e.2) in
          let r : Same T.back U.back = reverse_same T.map U.map T.back U.back s T.reversed U.reversed in
          pair_same p q e.1 (e.0 ∙ sym U.ones) (e.2 ∙ sym U.columns)
          (T.reverse ∙ columns_same T.back U.back r ∙ sym U.reverse)
      | inr b ↦ elim (Q.least p.constant T.map T.back T.lawful T.reversed) [
        | inl e ↦ absurd (before_never p.ones p.constant p.columns
            (moved p.ones p.constant p.columns (sym U.ones ∙ e.0 ∙ sym T.ones) e.1 (sym U.columns ∙ e.2 ∙ sym T.columns) b))
        | inr d ↦ absurd (before_never p.ones p.constant p.columns
            (before_then p.ones p.constant p.columns q.ones q.constant q.columns p.ones p.constant p.columns
            (moved p.ones p.constant p.columns (sym U.ones) refl (sym U.columns) b) (moved q.ones q.constant q.columns (sym T.ones) refl (sym T.columns) d)))
      ]
    ]
