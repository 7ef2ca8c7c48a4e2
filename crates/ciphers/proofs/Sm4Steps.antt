-- The steps of the rounds and of the key schedule of SM4. Assumes nothing.
use Rattle.std.proofs.Common.{◌≡◌, ℕ, zero, suc, ◌+◌, ◌-◌, ◌*◌, ◌/◌, ◌%◌, ◌^◌, ◌<◌, ◌≤◌, List, [], ◌∷◌, ◌++◌, map, length, get_or, take, drop, sym, refl, ap, ◌∙◌, subst, arith, shr-shr, below_more}
use Rattle.std.specs.List.{range_with_len}
use Rattle.std.proofs.lemmas.List.{append_assoc, take_all, take_more, drop-drop, take_at, drop_at, get_or-drop, length-take-le, at_drop_more, at_drop_all}
use Rattle.std.proofs.lemmas.List.FromFn.{fill_by_all}
use Rattle.ciphers.specs.Sm4.{word, word_at, four_bytes, bytes_of, moved, linear, linear_key, ck, round_keys, schedule_s, rounds_s, key_words}

-- ---- words as bytes

pub bytes_push : (ws : List ℕ) (w : ℕ) → bytes_of (ws ++ (w ∷ [])) ≡ bytes_of ws ++ four_bytes w
unfolding bytes_of
bytes_push [] w = refl
bytes_push (v ∷ ws) w = ap (λ (x : List ℕ). four_bytes v ++ x) (bytes_push ws w)

pub bytes_length : (ws : List ℕ) → length (bytes_of ws) ≡ 4 * length ws
unfolding bytes_of
bytes_length [] = refl
bytes_length (w ∷ ws) = let e = bytes_length ws in omega arith

four_digits : (w x y z : ℕ) → x ≡ w / 256 → y ≡ x / 256 → z ≡ y / 256 → z < 256 → word (z % 256) (y % 256) (x % 256) (w % 256) ≡ w
four_digits w x y z p q r h = omega arith

word_bytes : (w : ℕ) → w < 2 ^ 32 → word (w / 2 ^ 24 % 256) (w / 2 ^ 16 % 256) (w / 2 ^ 8 % 256) (w % 256) ≡ w
word_bytes w h =
    four_digits w (w / 2 ^ 8) (w / 2 ^ 16) (w / 2 ^ 24) refl (sym (shr-shr w 8 8)) (sym (shr-shr w 16 8)) (omega arith)

-- past its first four bytes a list has its words one place earlier
word_later : (a b c d : ℕ) (bs : List ℕ) (k : ℕ) → word_at (a ∷ b ∷ c ∷ d ∷ bs) (suc k) ≡ word_at bs k
word_later a b c d bs k =
    let at : ℕ → ℕ = λ n. get_or (a ∷ b ∷ c ∷ d ∷ bs) n 0 in
    let e : (j : ℕ) → at (4 * suc k + j) ≡ get_or bs (4 * k + j) 0 =
    λ j. let m : 4 * suc k + j ≡ suc (suc (suc (suc (4 * k + j)))) = omega arith in ap at m in
    let z : at (4 * suc k) ≡ get_or bs (4 * k) 0 = let m : 4 * suc k ≡ suc (suc (suc (suc (4 * k)))) = omega arith in ap at m in
    λ i. word (z i) (e 1 i) (e 2 i) (e 3 i)

-- a word that was written is read again
pub word_back : (ws rest : List ℕ) (k : ℕ) → k < length ws → get_or ws k 0 < 2 ^ 32 → word_at (bytes_of ws ++ rest) k ≡ get_or ws k 0
unfolding bytes_of
word_back [] rest k l h = absurd (omega arith)
word_back (w ∷ ws) rest zero l h = word_bytes w h
word_back (w ∷ ws) rest (suc k) l h = word_later _ _ _ _ (bytes_of ws ++ rest) k ∙ word_back ws rest k (omega arith) h

module _ (box : ℕ → ℕ) where
  -- ---- the key schedule

  pub keys_length : (n i : ℕ) (x : List ℕ) → length (round_keys box n i x) ≡ n
  unfolding round_keys
  keys_length zero i x = refl
  keys_length (suc n) i x = ap suc (keys_length n (i + 1) (moved box linear_key x (ck i)))

  -- the first i round keys stand in the work area, the others come from the words x
  pub record Sofar (first x work : List ℕ) (i : ℕ) (old : List ℕ) : Type 0 where
    pub made : work ≡ bytes_of (take i (round_keys box 32 0 first)) ++ drop (4 * i) old
    pub left : drop i (round_keys box 32 0 first) ≡ round_keys box (32 - i) i x
    pub words : (k : ℕ) → k < i → get_or (round_keys box 32 0 first) k 0 < 2 ^ 32

  pub keys_none : (first old : List ℕ) → Sofar first first old 0 old
  unfolding bytes_of
  keys_none first old = record { made = refl; left = refl; words = λ k h. absurd (omega arith) }

  pub keys_more : (first x y work later old : List ℕ) (i : ℕ) → i < 32 → y ≡ moved box linear_key x (ck i) → get_or y 3 0 < 2 ^ 32
      → later ≡ take (4 * i) work ++ (four_bytes (get_or y 3 0) ++ drop (4 * i + 4) work) → Sofar first x work i old → Sofar first y later (i + 1) old
  unfolding round_keys
  keys_more first x y work later old i h e fits wrote so =
      let S = round_keys box 32 0 first in
      let long : length S ≡ 32 = keys_length 32 0 first in
      let w = get_or y 3 0 in
      let m : 32 - i ≡ suc (32 - (i + 1)) = omega arith in
      let next : drop i S ≡ w ∷ round_keys box (32 - (i + 1)) (i + 1) y =
      so.left ∙ ap (λ (n : ℕ). round_keys box n i x) m ∙ ap (λ (z : List ℕ). get_or z 3 0 ∷ round_keys box (32 - (i + 1)) (i + 1) z) (sym e) in
      let z : i + 0 ≡ i = omega arith in
      let here : get_or S i 0 ≡ w = ap (λ (n : ℕ). get_or S n 0) (sym z) ∙ sym (get_or-drop i S 0 0) ∙ ap (λ (l : List ℕ). get_or l 0 0) next in
      let front = bytes_of (take i S) in
      let length_front : length front ≡ 4 * i = bytes_length (take i S) ∙ ap (λ (n : ℕ). 4 * n) (length-take-le i S (omega arith)) in
      let before : take (4 * i) work ≡ front = ap (take (4 * i)) so.made ∙ take_at front (drop (4 * i) old) (4 * i) length_front in
      let four : 4 * i + 4 ≡ 4 * (i + 1) = omega arith in
      let after : drop (4 * i + 4) work ≡ drop (4 * (i + 1)) old =
      sym (drop-drop 4 (4 * i) work) ∙ ap (drop 4) (ap (drop (4 * i)) so.made ∙ drop_at front (drop (4 * i) old) (4 * i) length_front)
      ∙ drop-drop 4 (4 * i) old ∙ ap (λ (n : ℕ). drop n old) four in
      let grown : front ++ four_bytes w ≡ bytes_of (take (i + 1) S) =
      sym (bytes_push (take i S) w) ∙ ap (λ (v : ℕ). bytes_of (take i S ++ (v ∷ []))) (sym here) ∙ ap bytes_of (sym (take_more S i 0 (omega arith))) in
      record {
        made =
            wrote ∙ (λ j. before j ++ (four_bytes w ++ after j)) ∙ sym (append_assoc front (four_bytes w) (drop (4 * (i + 1)) old))
            ∙ ap (λ (l : List ℕ). l ++ drop (4 * (i + 1)) old) grown;
        left = sym (drop-drop 1 i S) ∙ ap (drop 1) next;
        words = below_more _ _ so.words (subst (λ (v : ℕ). v < 2 ^ 32) (sym here) fits);
      }

  pub keys_all : (key x work : List ℕ) (i : ℕ) (old : List ℕ) → i ≡ 32 → Sofar (key_words key) x work i old → work ≡ bytes_of (schedule_s box key) ++ drop 128 old
  unfolding schedule_s
  keys_all key x work i old e so =
      let S = round_keys box 32 0 (key_words key) in
      let long : length S ≡ 32 = keys_length 32 0 (key_words key) in
      so.made ∙ ap (λ (n : ℕ). bytes_of (take n S) ++ drop (4 * n) old) e ∙ ap (λ (l : List ℕ). bytes_of l ++ drop 128 old) (take_all 32 S (omega arith))

  pub words_all : (key x work : List ℕ) (i : ℕ) (old : List ℕ) → i ≡ 32 → Sofar (key_words key) x work i old → (k : ℕ) → k < 32 → get_or (schedule_s box key) k 0 < 2 ^ 32
  unfolding schedule_s
  words_all key x work i old e so k h = so.words k (omega arith)

  -- what is read from the work area is the schedule
  pub schedule_back : (key rest : List ℕ) → ((k : ℕ) → k < 32 → get_or (schedule_s box key) k 0 < 2 ^ 32)
      → map (word_at (bytes_of (schedule_s box key) ++ rest)) (range_with_len 0 32) ≡ schedule_s box key
  unfolding schedule_s
  schedule_back key rest words =
      let S = schedule_s box key in
      let long : length S ≡ 32 = keys_length 32 0 (key_words key) in
      sym (fill_by_all (word_at (bytes_of S ++ rest)) S 32 0 long (λ k h. sym (word_back S rest k (omega arith) (words k h))))

  -- ---- the rounds

  pub round_more : (rk : List ℕ) (i : ℕ) (x : List ℕ) → i < length rk → rounds_s box (drop i rk) x ≡ rounds_s box (drop (i + 1) rk) (moved box linear x (get_or rk i 0))
  unfolding rounds_s
  round_more rk i x h = at_drop_more (λ ks. rounds_s box ks x) rk i 0 h

  pub round_all : (rk : List ℕ) (i : ℕ) (x : List ℕ) → length rk ≤ i → rounds_s box (drop i rk) x ≡ x
  unfolding rounds_s
  round_all rk i x h = at_drop_all (λ ks. rounds_s box ks x) rk i h
