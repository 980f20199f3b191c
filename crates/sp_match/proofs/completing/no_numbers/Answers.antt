use Rattle.std.proofs.Common.{◌≡◌, ℕ, ◌+◌, List, [], ◌∷◌, ◌++◌, map, sym, ap, ◌∙◌, arith}
use Rattle.std.specs.List.{range_with_len}
use Rattle.std.proofs.lemmas.List.{map_push}
use Rattle.sp_match.specs.public.Seen.{seen_name}
use Rattle.sp_match.proofs.Searches.{range_push}
use Rattle.sp_match.proofs.completing.no_numbers.Goals as goal

pub loop-name-preserved : goal.loop-name-preserved
loop-name-preserved c =
    let name = c.loop-name.name in
    let none : ℕ → ℕ × List ℕ = λ n. (n, []) in
    let same : name ≡ 0 + name = omega arith in
    ap (map seen_name) c.in_ok-push.ensures.items ∙ map_push seen_name c.loop-name.lists.items (name, c.new.result)
    ∙ (λ i. c.loop-name.invariant i ++ (name, c.new.ensures.list i) ∷ [])
    ∙ sym (map_push none (range_with_len 0 name) name) ∙ ap (map none) ((λ i. range_with_len 0 name ++ same i ∷ []) ∙ sym (range_push 0 name))
