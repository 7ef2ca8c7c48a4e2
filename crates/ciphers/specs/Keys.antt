-- Keys that are loaded, and the block cipher of each. Assumes nothing.
use Rattle.std.specs.Prelude.{◌≡◌, ℕ, ◌<◌, ◌≤◌, ◌⊎◌, List, ◌++◌, length, drop, Result, MatchResult, ◌≢◌}
use Rattle.refusals.specs.declared.Refusal.{Refusal}
use Rattle.refusals.specs.declared.Refusal.TheVariants.{KeyLength, SmallWork}
use Rattle.ciphers.specs.declared.keys.Cipher.{Cipher}
use Rattle.ciphers.specs.declared.keys.Cipher.TheVariants.{Aes, Sm4}
use Rattle.ciphers.specs.declared.keys.Schedule.{Schedule}
use Rattle.ciphers.specs.declared.keys.Schedule.TheVariants.{AesBytes, Sm4Words}
use Rattle.ciphers.specs.Aes.{key_expansion, cipher_a}
use Rattle.ciphers.specs.Sm4.{bytes_of, schedule_s, cipher_s}

-- a work area of 176 bytes or more after a schedule was written to its front
abbrev pub written : Schedule → List ℕ → List ℕ
written (AesBytes w) work = w ++ drop 176 work
written (Sm4Words rk) work = bytes_of rk ++ drop 128 work

-- why a key is refused: first its length, then the work area's
abbrev pub Reason : List ℕ → List ℕ → Refusal → Type 0
Reason key work e =
    ((e ≡ KeyLength) × (length key ≢ 16)) ⊎ ((e ≡ SmallWork) × ((length key ≡ 16) × (length work < 176)))

module _ (box : ℕ → ℕ) where
  -- the schedule of a key
  abbrev pub schedule_of : Cipher → List ℕ → Schedule
  schedule_of Aes key = AesBytes (key_expansion box key)
  schedule_of Sm4 key = Sm4Words (schedule_s box key)

  -- a block under a schedule
  abbrev pub cipher_of : Schedule → List ℕ → List ℕ
  cipher_of (AesBytes w) block = cipher_a box w block
  cipher_of (Sm4Words rk) block = cipher_s box rk block

  -- an accepted key: its schedule, which also stands in the work area
  pub record Loads (c : Cipher) (key work : List ℕ) (s : Schedule) (left : List ℕ) : Type 0 where
    pub sixteen : length key ≡ 16
    pub room : 176 ≤ length work
    pub schedule : s ≡ schedule_of c key
    pub held : left ≡ written s work

  -- what the load of a key answers, and what it leaves in the work area
  abbrev pub Loaded : Cipher → List ℕ → List ℕ → Result Schedule Refusal → List ℕ → Type 0
  Loaded c key work r left = MatchResult r (λ s. Loads c key work s left) (λ e. Reason key work e × (left ≡ work))
