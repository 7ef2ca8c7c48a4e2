-- The search over all bytes r and y, in the order of r * 256 + y. Assumes nothing.
use Rattle.std.specs.Prelude.{◌≡◌, ℕ, ◌+◌, ◌*◌, ◌<◌, ◌⊎◌, List, IfSome, Option, MatchOption}
use Rattle.towers.specs.Order.{Before}
use Rattle.towers.specs.Place.{Serves, Candidate}
use Rattle.towers.specs.declared.pair.Pair.{Pair}

-- p comes before q
abbrev pub Precedes : Pair → Pair → Type 0
Precedes p q = Before p.ones p.constant p.columns q.ones q.constant q.columns

-- p and q tell the same ones, constant and columns, or p comes before q
abbrev pub Ahead : Pair → Pair → Type 0
Ahead p q = ((p.ones ≡ q.ones) × (p.constant ≡ q.constant) × (p.columns ≡ q.columns)) ⊎ Precedes p q

-- r is q, if q comes before what is kept so far, and else what is kept so far
abbrev pub Earlier : Option Pair → Pair → Pair → Type 0
Earlier best q r = MatchOption best (r ≡ q) (λ p. ((r ≡ q) × Precedes q p) ⊎ ((r ≡ p) × (Precedes q p → ⊥)))

-- what is kept so far is a pair of the search, ahead of one at each place below k that serves
pub record Least (gs us : List ℕ) (oct : ℕ → ℕ → ℕ) (k : ℕ) (best : Option Pair) : Type 0 where
  pub held : IfSome best (λ p. (r : ℕ) × (y : ℕ) × Candidate gs us oct r y p)
  pub seen : (r y u : ℕ) → Serves oct r y u → r * 256 + y < k
      → (q : Pair) × Candidate gs us oct r y q × MatchOption best ⊥ (λ p. Ahead p q)
