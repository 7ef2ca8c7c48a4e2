-- The known pairs are those that an end over the display's ring keeps. Assumes nothing.
use Rattle.octics.specs.Octics.{Accepted}
use Rattle.octics.proofs.Accepts.{accepted_11b, accepted_1f5}
use Rattle.display_ring.specs.Display.{display_mul}
use Rattle.towers.specs.Keeps.{Keeps}
use Rattle.display_ring.proofs.DisplayPairs.{kept_11b, kept_1f5}
use Rattle.ciphers.specs.declared.keys.Cipher.{Cipher}
use Rattle.ciphers.specs.declared.keys.Cipher.TheVariants.{Aes, Sm4}
use Rattle.ends.specs.Display.{known_pair}
use Rattle.ends.specs.Letters.{octic_of}

pub accepted_of : (c : Cipher) → Accepted (octic_of c)
accepted_of Aes = accepted_11b
accepted_of Sm4 = accepted_1f5

pub kept_of : (c : Cipher) → Keeps display_mul (octic_of c) (known_pair c)
kept_of Aes = kept_11b
kept_of Sm4 = kept_1f5
