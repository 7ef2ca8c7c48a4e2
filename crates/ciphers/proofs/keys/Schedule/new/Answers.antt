use Rattle.std.proofs.Common.{◌≡◌, ℕ, ◌≤◌, List, ◌++◌, length, take, drop, sym, ap, ◌∙◌, rules, arith}
use Rattle.std.proofs.lemmas.List.{append_assoc, drop-append-le, take-append-drop, length-take-le}
use Rattle.ciphers.specs.Sm4.{bytes_of}
use Rattle.ciphers.proofs.keys.Schedule.new.Goals as goal

-- what stands past the first 128 bytes of the front of a work area, and past the front
past : (a work : List ℕ) → 176 ≤ length work → (a ++ drop 128 (take 176 work)) ++ drop 176 work ≡ a ++ drop 128 work
past a work h =
    let long = length-take-le 176 work h in
    append_assoc a (drop 128 (take 176 work)) (drop 176 work)
    ∙ ap (λ (l : List ℕ). a ++ l) (sym (drop-append-le 128 (take 176 work) (drop 176 work) (omega arith)) ∙ ap (drop 128) (take-append-drop 176 work))

pub returns-in-Sm4 : goal.returns-in-Sm4
returns-in-Sm4 g c =
    let work = c.args.work.now in
    let enough : 176 ≤ length work = search rules in
    let same : c.in_ok-front.front.now ≡ take 176 work = search rules in
    record {
      sixteen = search rules;
      room = enough;
      schedule = search rules;
      held =
          ap (λ (l : List ℕ). l ++ drop 176 work) (c.sm4_words.ensures.held ∙ ap (λ (l : List ℕ). bytes_of c.sm4_words.result ++ drop 128 l) same)
          ∙ past (bytes_of c.sm4_words.result) work enough;
    }
