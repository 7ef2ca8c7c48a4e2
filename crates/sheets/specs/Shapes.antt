-- Words that make no token stand for nothing. Assumes nothing.
use Rattle.std.specs.Prelude.{◌≡◌, ℕ, cond, List, Some, None, Option, ◌==◌}
use Rattle.std.proofs.Common.{ap, subst}
use Rattle.ciphers.specs.declared.keys.Cipher.TheVariants.{Aes, Sm4}
use Rattle.sheets.specs.declared.tokens.Due.TheVariants.{Count, Letter, Digits}
use Rattle.sheets.specs.Forms.{by, count_of, side_named, side_of, cipher_of}
use Rattle.sheets.specs.Steps.{shape}

pub no_count : (bs : List ℕ) → shape Count bs ≡ None → count_of bs ≡ None
no_count bs e = e

pub no_side : (bs : List ℕ) → shape Letter bs ≡ None → side_of bs ≡ None
no_side bs e = ap (λ o. by o side_named) e

pub no_cipher : (bs : List ℕ) → shape Letter bs ≡ None → cipher_of bs ≡ None
no_cipher bs e = ap (λ o. by o (λ b. cond (b == 65) (Some Aes) (cond (b == 83) (Some Sm4) None))) e

abbrev HasToken : Option ℕ → Type 0
HasToken None = ⊥
HasToken (Some n) = Unit {0}

-- any word makes a token of digits
pub no_digits : {A : Type 0} (form : List ℕ → Option A) (bs : List ℕ) → shape Digits bs ≡ None → form bs ≡ None
no_digits form bs e = absurd (subst HasToken e tt)
