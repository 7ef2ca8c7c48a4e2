-- Where lawful pairs are looked for. A root of z⁴ + z + 1 and its powers carry the field of sixteen codes: a lawful pair is
-- settled by the byte r that a root g goes to and the byte y that Y goes to. Assumes nothing.
use Rattle.std.specs.Prelude.{◌≡◌, ℕ, ◌+◌, ◌^◌, ◌<◌, List, [], ◌∷◌, length, Option, MatchOption, ◌≢◌, bit_xor, slice_index}
use Rattle.towers.specs.Matrices.{apply, entries}
use Rattle.towers.specs.declared.pair.Pair.{Pair}

-- g is a root of z⁴ + z + 1
abbrev pub IsRoot : ℕ → (ℕ → ℕ → ℕ) → ℕ → Type 0
IsRoot one mul g = mul (mul g g) (mul g g) ≡ bit_xor g one

-- the powers 0 to 3 of g
abbrev pub powers_of : ℕ → (ℕ → ℕ → ℕ) → ℕ → List ℕ
powers_of one mul g = one ∷ g ∷ mul g g ∷ mul g (mul g g) ∷ []

-- the polynomial of degree below 4 with the bits of v as its coefficients, at g
unfoldable pub image : ℕ → (ℕ → ℕ → ℕ) → ℕ → ℕ → ℕ
image one mul g v = apply (powers_of one mul g) v

-- a number below n whose marked columns add up to b, or none where there is no such number
abbrev pub Solution : List ℕ → ℕ → ℕ → Option ℕ → Type 0
Solution cs n b r = MatchOption r ((v : ℕ) → v < n → apply cs v ≢ b) (λ v. (v < n) × (apply cs v ≡ b))

-- v is below n, and its marked columns add up to b if those of any number below n do
pub record Solves (cs : List ℕ) (n b v : ℕ) : Type 0 where
  pub below : v < n
  pub solves : (x : ℕ) → x < n → apply cs x ≡ b → apply cs v ≡ b

-- bs are the columns of the reverse of the matrix cs of w columns, as far as it has one
pub record Reversed (w : ℕ) (cs bs : List ℕ) : Type 0 where
  pub size : length bs ≡ w
  pub each : (i : ℕ) → i < w → Solves cs (2 ^ w) (2 ^ i) (slice_index bs i)

-- r and y serve the ring of width 8: r is a root, y is no polynomial in r, and y y + y is the polynomial u in r
pub record Serves (oct : ℕ → ℕ → ℕ) (r y u : ℕ) : Type 0 where
  pub lr : r < 256
  pub root : IsRoot 1 oct r
  pub ly : y < 256
  pub lu : u < 16
  pub square : oct y y ≡ bit_xor y (image 1 oct r u)
  pub new : (v : ℕ) → v < 16 → image 1 oct r v ≢ y

-- the column of code 2 ^ i, where rs are the powers of r, and us the columns of the reverse of the powers of g
abbrev pub low : List ℕ → List ℕ → ℕ → ℕ
low rs us i = apply rs (slice_index us i)

-- the columns of the map at the bytes r and y: those of the codes below 16, and y times each
abbrev pub placed : (ℕ → ℕ → ℕ) → List ℕ → List ℕ → ℕ → List ℕ
placed oct rs us y =
    low rs us 0 ∷ low rs us 1 ∷ low rs us 2 ∷ low rs us 3
    ∷ oct y (low rs us 0) ∷ oct y (low rs us 1) ∷ oct y (low rs us 2) ∷ oct y (low rs us 3) ∷ []

-- q tells the pair whose constant is the polynomial u in g, with these columns
pub record Built (gs us rs : List ℕ) (oct : ℕ → ℕ → ℕ) (y u : ℕ) (q : Pair) : Type 0 where
  pub constant : q.constant ≡ apply gs u
  pub columns : q.columns ≡ placed oct rs us y
  pub reverse : Reversed 8 q.columns q.reverse
  pub ones : q.ones ≡ entries q.columns + entries q.reverse

-- q tells the pair at the bytes r and y
pub record Candidate (gs us : List ℕ) (oct : ℕ → ℕ → ℕ) (r y : ℕ) (q : Pair) : Type 0 where
  pub code : ℕ
  pub serves : Serves oct r y code
  pub built : Built gs us (powers_of 1 oct r) oct y code q

-- the pair at the bytes r and y, or none where they do not serve
abbrev pub Visited : List ℕ → List ℕ → (ℕ → ℕ → ℕ) → ℕ → ℕ → Option Pair → Type 0
Visited gs us oct r y o = MatchOption o ((u : ℕ) → Serves oct r y u → ⊥) (Candidate gs us oct r y)

-- the powers of a root, and the codes 1, 2, 4 and 8 as polynomials in it
pub record Based (mul : ℕ → ℕ → ℕ) (gs us : List ℕ) : Type 0 where
  pub root : ℕ
  pub code : root < 16
  pub is_root : IsRoot 1 mul root
  pub powers : gs ≡ powers_of 1 mul root
  pub reverse : Reversed 4 gs us
