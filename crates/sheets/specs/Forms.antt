-- What a word stands for where a count, a letter or digits are due. Assumes nothing.
use Rattle.std.specs.Prelude.{ℕ, ◌+◌, ◌-◌, ◌*◌, cond, List, [], ◌∷◌, length, Some, None, Option, ◌==◌, nat_le}
use Rattle.words.specs.Hex.{hex_value, two_digits, hex_triple}
use Rattle.ciphers.specs.declared.keys.Cipher.{Cipher}
use Rattle.ciphers.specs.declared.keys.Cipher.TheVariants.{Aes, Sm4}
use Rattle.watch.specs.declared.side.Side.{Side}
use Rattle.watch.specs.declared.side.Side.TheVariants.{First, Second}

-- o's value by f, or none
abbrev pub by : {A B : Type 0} → Option A → (A → Option B) → Option B
by None f = None
by (Some a) f = f a

-- a decimal digit: 0 to 9 from 48 on
abbrev pub decimal : ℕ → Option ℕ
decimal b = cond (nat_le 48 b) (cond (nat_le b 57) (Some (b - 48)) None) None

-- ten times the first, and the second
abbrev pub tens_and_ones : Option ℕ → Option ℕ → Option ℕ
tens_and_ones None b = None
tens_and_ones (Some a) None = None
tens_and_ones (Some a) (Some b) = Some (a * 10 + b)

-- the number of one or two decimal digits
abbrev pub one_or_two : List ℕ → Option ℕ
one_or_two [] = None
one_or_two (a ∷ []) = decimal a
one_or_two (a ∷ b ∷ []) = tens_and_ones (decimal a) (decimal b)
one_or_two (a ∷ b ∷ c ∷ bs) = None

-- a count: one or two decimal digits, at most 64
abbrev pub count_of : List ℕ → Option ℕ
count_of bs = by (one_or_two bs) (λ n. cond (nat_le n 64) (Some n) None)

-- a letter: a word of one byte
abbrev pub letter_of : List ℕ → Option ℕ
letter_of [] = None
letter_of (a ∷ []) = Some a
letter_of (a ∷ b ∷ bs) = None

-- the end of a letter: H (72) is the first, D (68) the second
abbrev pub side_named : ℕ → Option Side
side_named b = cond (b == 72) (Some First) (cond (b == 68) (Some Second) None)

-- an end: its letter
abbrev pub side_of : List ℕ → Option Side
side_of bs = by (letter_of bs) side_named

-- a cipher: A (65) or S (83)
abbrev pub cipher_of : List ℕ → Option Cipher
cipher_of bs = by (letter_of bs) (λ b. cond (b == 65) (Some Aes) (cond (b == 83) (Some Sm4) None))

-- an octic: three hexadecimal digits
abbrev pub octic_of : List ℕ → Option ℕ
octic_of = hex_triple

-- a byte in front of others
abbrev pub in_front : Option ℕ → Option (List ℕ) → Option (List ℕ)
in_front None bs = None
in_front (Some b) None = None
in_front (Some b) (Some bs) = Some (b ∷ bs)

-- bytes of two hexadecimal digits each, the higher first
unfoldable pub bytes_of : List ℕ → Option (List ℕ)
bytes_of [] = Some []
bytes_of (a ∷ []) = None
bytes_of (a ∷ b ∷ ds) = in_front (two_digits (hex_value a) (hex_value b)) (bytes_of ds)

-- a key: 32 digits
abbrev pub key_bytes : List ℕ → Option (List ℕ)
key_bytes ds = cond (length ds == 32) (bytes_of ds) None

-- a sector: 2 to 512 digits, an even count of them
abbrev pub sector_bytes : List ℕ → Option (List ℕ)
sector_bytes ds = cond (nat_le 2 (length ds)) (cond (nat_le (length ds) 512) (bytes_of ds) None) None
