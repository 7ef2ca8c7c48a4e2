-- Hexadecimal digits as ASCII bytes, letters as capitals. Assumes nothing.
use Rattle.std.specs.Prelude.{ℕ, ◌+◌, ◌-◌, ◌*◌, cond, List, [], ◌∷◌, length, Some, None, Option, ◌==◌, nat_le}
use Rattle.std.specs.Option.{option_and_then}

-- b lies from a to z
abbrev within : ℕ → ℕ → ℕ → Option ℕ → Option ℕ → Option ℕ
within a z b yes_part no_part = cond (nat_le a b) (cond (nat_le b z) yes_part no_part) no_part

-- the value of a digit: 0 to 9 from 48 on, A to F from 65 on
abbrev pub hex_value : ℕ → Option ℕ
hex_value b = within 48 57 b (Some (b - 48)) (within 65 70 b (Some (b - 55)) None)

-- sixteen times the first, and the second
abbrev pub two_digits : Option ℕ → Option ℕ → Option ℕ
two_digits None b = None
two_digits (Some a) None = None
two_digits (Some a) (Some b) = Some (a * 16 + b)

-- the byte that two digits stand for
abbrev pub hex_byte : List ℕ → Option ℕ
hex_byte [] = None
hex_byte (a ∷ []) = None
hex_byte (a ∷ b ∷ []) = two_digits (hex_value a) (hex_value b)
hex_byte (a ∷ b ∷ c ∷ cs) = None

-- 256 times the first, 16 times the second, and the third
abbrev pub three_digits : Option ℕ → Option ℕ → Option ℕ → Option ℕ
three_digits None b c = None
three_digits (Some a) None c = None
three_digits (Some a) (Some b) None = None
three_digits (Some a) (Some b) (Some c) = Some (a * 256 + b * 16 + c)

-- the number that three digits stand for
abbrev pub hex_triple : List ℕ → Option ℕ
hex_triple [] = None
hex_triple (a ∷ []) = None
hex_triple (a ∷ b ∷ []) = None
hex_triple (a ∷ b ∷ c ∷ []) = three_digits (hex_value a) (hex_value b) (hex_value c)
hex_triple (a ∷ b ∷ c ∷ d ∷ ds) = None

-- the number that digits stand for behind the number n
unfoldable pub hex_behind : ℕ → List ℕ → Option ℕ
hex_behind n [] = Some n
hex_behind n (d ∷ ds) = option_and_then (λ v. hex_behind (n * 16 + v) ds) (hex_value d)

-- the number that so many digits stand for
abbrev pub hex_number : ℕ → List ℕ → Option ℕ
hex_number count ds = cond (length ds == count) (hex_behind 0 ds) None
