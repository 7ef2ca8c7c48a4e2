-- AES-128, as FIPS 197 defines it, over a box. A state is its 16 bytes, column by column, and a schedule is its bytes, word by word.
-- Assumes nothing.
use Rattle.std.specs.Prelude.{ℕ, zero, suc, ◌+◌, ◌-◌, ◌*◌, ◌/◌, ◌%◌, cond, List, [], ◌∷◌, ◌++◌, map, length, ◌==◌, bit_xor, slice_index}
use Rattle.std.specs.List.{range_with_len}
use Rattle.rings.specs.Poly.{mul_mod}

-- the block whose byte i is f i
abbrev pub block : (ℕ → ℕ) → List ℕ
block f = map f (range_with_len 0 16)

-- the byte in row r and column c of a state
abbrev pub at : List ℕ → ℕ → ℕ → ℕ
at s r c = slice_index s (r + 4 * c)

-- the state whose byte in row r and column c is f r c
abbrev pub state : (ℕ → ℕ → ℕ) → List ℕ
state f = block (λ i. f (i % 4) (i / 4))

-- what ShiftRows brings to row r and column c: row r goes r places to the left
abbrev pub shifted : List ℕ → ℕ → ℕ → ℕ
shifted s r c = at s r ((c + r) % 4)

-- ShiftRows
unfoldable pub shift_rows : List ℕ → List ℕ
shift_rows s = state (shifted s)

-- what MixColumns brings to row r and column c: twice that byte, three times the one below it, and the other two of the column
abbrev pub mixed : List ℕ → ℕ → ℕ → ℕ
mixed s r c =
    bit_xor (bit_xor (bit_xor (mul_mod 8 0x11b 2 (at s r c)) (mul_mod 8 0x11b 3 (at s ((r + 1) % 4) c))) (at s ((r + 2) % 4) c))
    (at s ((r + 3) % 4) c)

-- MixColumns
unfoldable pub mix_columns : List ℕ → List ℕ
mix_columns s = state (mixed s)

-- AddRoundKey, with round key n of the schedule w
unfoldable pub add_round_key : List ℕ → ℕ → List ℕ → List ℕ
add_round_key w n s = block (λ i. bit_xor (slice_index s i) (slice_index w (16 * n + i)))

-- the power j of the indeterminate
unfoldable pub power : ℕ → ℕ
power zero = 1
power (suc j) = mul_mod 8 0x11b 2 (power j)

-- byte j of the round constant k, which holds the power k - 1 in byte 0
abbrev pub rcon : ℕ → ℕ → ℕ
rcon k j = cond (j == 0) (power (k - 1)) 0

-- byte j of word i of a schedule
abbrev pub word_byte : List ℕ → ℕ → ℕ → ℕ
word_byte w i j = slice_index w (4 * i + j)

module _ (box : ℕ → ℕ) where
  -- SubBytes
  unfoldable pub sub_bytes : List ℕ → List ℕ
  sub_bytes s = block (λ i. box (slice_index s i))

  -- byte j of what is added to make word i: the last word, which for every fourth one is turned by a byte, substituted and given the
  -- round constant
  abbrev pub temp : List ℕ → ℕ → ℕ → ℕ
  temp w i j =
      cond (i % 4 == 0) (bit_xor (box (word_byte w (i - 1) ((j + 1) % 4))) (rcon (i / 4) j)) (word_byte w (i - 1) j)

  -- byte j of word i, from the words before it
  unfoldable pub next_byte : List ℕ → ℕ → ℕ → ℕ
  next_byte w i j = bit_xor (word_byte w (i - 4) j) (temp w i j)

  -- a schedule with its next byte
  abbrev pub grown : List ℕ → List ℕ
  grown w = w ++ (next_byte w (length w / 4) (length w % 4) ∷ [])

  -- the key and k bytes more
  unfoldable pub expanded : List ℕ → ℕ → List ℕ
  expanded key zero = key
  expanded key (suc k) = grown (expanded key k)

  -- KeyExpansion: 44 words
  unfoldable pub key_expansion : List ℕ → List ℕ
  key_expansion key = expanded key 160

  -- round n
  abbrev pub full_round : List ℕ → ℕ → List ℕ → List ℕ
  full_round w n s = add_round_key w n (mix_columns (shift_rows (sub_bytes s)))

  -- the last round, which mixes no columns
  abbrev pub last_round : List ℕ → List ℕ → List ℕ
  last_round w s = add_round_key w 10 (shift_rows (sub_bytes s))

  -- the state after the rounds 1 to n
  unfoldable pub rounds : List ℕ → ℕ → List ℕ → List ℕ
  rounds w zero s = s
  rounds w (suc n) s = full_round w (suc n) (rounds w n s)

  -- Cipher, with the schedule w
  unfoldable pub cipher_a : List ℕ → List ℕ → List ℕ
  cipher_a w s = last_round w (rounds w 9 (add_round_key w 0 s))
