use Rattle.std.proofs.Common.{◌≡◌, ℕ, List, ◌++◌, length, drop, ap, ◌∙◌, arith, length-append, length-drop}
use Rattle.std.proofs.lemmas.List.{take_at}
use Rattle.ciphers.specs.Aes.{expanded}
use Rattle.ciphers.proofs.Schedule.{expanded_more, expanded_all}
use Rattle.ciphers.proofs.aes.expand.Goals as goal

begun : (key old : List ℕ) → length key ≡ 16 → length old ≡ 176 → length (key ++ drop 16 old) ≡ 176
begun key old k o =
    let a = length-append key (drop 16 old) in
    let b = length-drop 16 old in omega arith

pub loop-n-init : goal.loop-n-init
unfolding expanded
loop-n-init g c =
    let e = c.copy_from_slice.ensures.after in
    let key = c.copy_from_slice.new.self in
    let work = c.args.work.now in
    let sixteen : length c.args.key.now ≡ 16 = omega arith in
    let long : length key ≡ 16 = ap length e ∙ sixteen in
    record { long = begun key work long (omega arith); made = take_at key (drop 16 work) 16 long ∙ e }

pub loop-n-preserved : goal.loop-n-preserved
loop-n-preserved g c = expanded_more _ _ c.loop-n.work c.loop-n.n _ (omega arith) (omega arith) c.next_byte.ensures c.loop-n.invariant

pub returns : goal.returns
returns g c = expanded_all _ _ c.loop-n.work c.loop-n.n (omega arith) c.loop-n.invariant
