-- SM4, as GB/T 32907-2016 defines it, over a box. A word is a number below 2 ^ 32, its highest byte first. Assumes nothing.
use Rattle.std.specs.Prelude.{ℕ, zero, suc, ◌+◌, ◌-◌, ◌*◌, ◌/◌, ◌%◌, ◌^◌, List, [], ◌∷◌, ◌++◌, bit_or, bit_xor, slice_index}

-- the word of four bytes
abbrev pub word : ℕ → ℕ → ℕ → ℕ → ℕ
word a b c d = a * 2 ^ 24 + b * 2 ^ 16 + c * 2 ^ 8 + d

-- word i of some bytes
abbrev pub word_at : List ℕ → ℕ → ℕ
word_at bs i = word (slice_index bs (4 * i)) (slice_index bs (4 * i + 1)) (slice_index bs (4 * i + 2)) (slice_index bs (4 * i + 3))

-- the bytes of a word
abbrev pub four_bytes : ℕ → List ℕ
four_bytes w = w / 2 ^ 24 % 256 ∷ w / 2 ^ 16 % 256 ∷ w / 2 ^ 8 % 256 ∷ w % 256 ∷ []

-- the bytes of some words, one word after the other
unfoldable pub bytes_of : List ℕ → List ℕ
bytes_of [] = []
bytes_of (w ∷ ws) = four_bytes w ++ bytes_of ws

-- the four words of a block
abbrev pub four_words : List ℕ → List ℕ
four_words bs = word_at bs 0 ∷ word_at bs 1 ∷ word_at bs 2 ∷ word_at bs 3 ∷ []

-- a word turned n places to the left
abbrev pub rotl : ℕ → ℕ → ℕ
rotl n w = bit_or (w * 2 ^ n % 2 ^ 32) (w / 2 ^ (32 - n))

-- the linear map L of the rounds
unfoldable pub linear : ℕ → ℕ
linear b = bit_xor (bit_xor (bit_xor (bit_xor b (rotl 2 b)) (rotl 10 b)) (rotl 18 b)) (rotl 24 b)

-- the linear map L' of the key schedule
unfoldable pub linear_key : ℕ → ℕ
linear_key b = bit_xor (bit_xor b (rotl 13 b)) (rotl 23 b)

-- the constant CK number i, whose byte j is 7 (4 i + j) modulo 256
abbrev pub ck : ℕ → ℕ
ck i = word (7 * (4 * i) % 256) (7 * (4 * i + 1) % 256) (7 * (4 * i + 2) % 256) (7 * (4 * i + 3) % 256)

-- the first four words of the key schedule: the key's, with the constants FK
abbrev pub key_words : List ℕ → List ℕ
key_words key =
    bit_xor (word_at key 0) 0xa3b1bac6 ∷ bit_xor (word_at key 1) 0x56aa3350 ∷ bit_xor (word_at key 2) 0x677d9197 ∷ bit_xor (word_at key 3) 0xb27022dc ∷ []

-- the reversal R of the last four words, as bytes
abbrev pub reversed : List ℕ → List ℕ
reversed x = four_bytes (slice_index x 3) ++ (four_bytes (slice_index x 2) ++ (four_bytes (slice_index x 1) ++ four_bytes (slice_index x 0)))

module _ (box : ℕ → ℕ) where
  -- the substitution τ of the four bytes of a word
  unfoldable pub tau : ℕ → ℕ
  tau w = word (box (w / 2 ^ 24 % 256)) (box (w / 2 ^ 16 % 256)) (box (w / 2 ^ 8 % 256)) (box (w % 256))

  -- the next word after four words, with a round key and L, or with a constant and L'
  abbrev pub next_word : (ℕ → ℕ) → List ℕ → ℕ → ℕ
  next_word L x k = bit_xor (slice_index x 0) (L (tau (bit_xor (bit_xor (bit_xor (slice_index x 1) (slice_index x 2)) (slice_index x 3)) k)))

  -- the last three words and the next one
  abbrev pub moved : (ℕ → ℕ) → List ℕ → ℕ → List ℕ
  moved L x k = slice_index x 1 ∷ slice_index x 2 ∷ slice_index x 3 ∷ next_word L x k ∷ []

  -- n round keys from number i on, from the four words before them
  unfoldable pub round_keys : ℕ → ℕ → List ℕ → List ℕ
  round_keys zero i x = []
  round_keys (suc n) i x = let y = moved linear_key x (ck i) in slice_index y 3 ∷ round_keys n (i + 1) y

  -- the 32 round keys of a key
  unfoldable pub schedule_s : List ℕ → List ℕ
  schedule_s key = round_keys 32 0 (key_words key)

  -- the words after a round with each of the round keys
  unfoldable pub rounds_s : List ℕ → List ℕ → List ℕ
  rounds_s [] x = x
  rounds_s (k ∷ ks) x = rounds_s ks (moved linear x k)

  -- a block under the round keys rk
  unfoldable pub cipher_s : List ℕ → List ℕ → List ℕ
  cipher_s rk bs = reversed (rounds_s rk (four_words bs))
