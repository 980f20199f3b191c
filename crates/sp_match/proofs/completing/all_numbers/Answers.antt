use Rattle.std.proofs.Common.{◌≡◌, ℕ, ◌<◌, ◌≤◌, List, [], ◌∷◌, ◌++◌, map, length, take, get_or, set, refl, sym, ap, subst, ◌∙◌, arith}
use Rattle.std.specs.List.{All, range_with_len}
use Rattle.std.proofs.lemmas.List.{get_or_default, get_or-map, length-map, map-set, take_all, take_more}
use Rattle.std.proofs.lemmas.List.FromFn.{length-map-range_with_len, get_or-map-range_with_len}
use Rattle.sp_match.specs.public.Seen.{seen_name}
use Rattle.sp_match.proofs.NumbersGathered.{named_under, under, under_more, under_below, map_under}
use Rattle.sp_match.proofs.completing.all_numbers.Goals as goal

-- the pair at hand
abbrev pair : List (ℕ × ℕ) → ℕ → ℕ × ℕ
pair bs i = get_or bs i (0, 0)

pub index_mut-list-requires : goal.index_mut-list-requires
index_mut-list-requires c =
    let q = c.args.plan.now in
    let bs = c.args.run.now.bound.items in
    let i = c.loop-name.name-index in
    let within : i < length bs = omega (arith, c.loop-name-test.true, ap length c.deref-name-items.ensures.value) in
    let named : (pair bs i).0 < length q.names = c.requires.good.named i (0, 0) within in
    let here : (pair c.deref-name-items.result.now i).0 ≡ (pair bs i).0 = ap (λ l. (pair l i).0) c.deref-name-items.ensures.value in
    let size : length c.loop-name.lists.items ≡ length q.names =
    sym (length-map c.loop-name.lists.items seen_name) ∙ ap length c.loop-name.invariant ∙ length-map-range_with_len (named_under (take i bs)) 0 (length q.names) in
    let room = c.loop-name.lists.ok in
    omega (arith, named, here, size, room)

pub loop-name-preserved : goal.loop-name-preserved
loop-name-preserved c =
    let q = c.args.plan.now in
    let n = length q.names in
    let bs = c.args.run.now.bound.items in
    let i = c.loop-name.name-index in
    let b = pair bs i in
    let lists = c.loop-name.lists.items in
    let at = c.index_mut-list.result.now in
    let within : i < length bs = omega (arith, c.loop-name-test.true, ap length c.deref-name-items.ensures.value) in
    let named : b.0 < n = c.requires.good.named i (0, 0) within in
    let same : pair c.deref-name-items.result.now i ≡ b = ap (λ l. pair l i) c.deref-name-items.ensures.value in
    let own : b ≡ get_or bs i b = get_or_default bs i (0, 0) b within in
    let size : length lists ≡ n = sym (length-map lists seen_name) ∙ ap length c.loop-name.invariant ∙ length-map-range_with_len (named_under (take i bs)) 0 n in
    let value : at ≡ get_or lists b.0 at = c.index_mut-list.ensures.value ∙ ap (λ (p : ℕ × ℕ). get_or lists p.0 at) same in
    let seen_at : seen_name at ≡ named_under (take i bs) b.0 =
    ap seen_name value ∙ sym (get_or-map seen_name lists b.0 at (seen_name at) (omega (arith, named, size))) ∙ ap (λ l. get_or l b.0 (seen_name at)) c.loop-name.invariant
    ∙ get_or-map-range_with_len (named_under (take i bs)) 0 n b.0 b.0 (seen_name at) named (omega arith) in
    let listed : at.1.list ≡ under (take i bs) b.0 = ap (λ (p : ℕ × List ℕ). p.1) seen_at in
    let below : All (λ m. m < (pair c.deref-name-items.result.now i).1) at.1.list =
    subst (λ (p : ℕ × ℕ). All (λ m. m < p.1) at.1.list) (sym same) (subst (All (λ m. m < b.1)) (sym listed) (under_below bs i b b.0 c.requires.good.rising within own)) in
    let added : c.insert.new.self.list ≡ under (take i bs) b.0 ++ b.1 ∷ [] = c.in_ok-insert.ensures.last below ∙ (λ j. listed j ++ (same j).1 ∷ []) in
    map-set seen_name lists (pair c.deref-name-items.result.now i).0 (at.0, c.insert.new.self)
    ∙ (λ j. set (c.loop-name.invariant j) (same j).0 ((seen_at j).0, added j))
    ∙ under_more (take i bs) b n (map (named_under (take i bs)) (range_with_len 0 n)) named refl
    ∙ ap (λ l. map (named_under l) (range_with_len 0 n)) (sym (take_more bs i (0, 0) within))

pub returns : goal.returns
returns c =
    let bs = c.args.run.now.bound.items in
    let done : length bs ≤ c.loop-name.name-index = omega (arith, c.loop-name-test.false, ap length c.deref-name-items.ensures.value) in
    c.loop-name.invariant ∙ ap (λ l. map (named_under l) (range_with_len 0 (length c.args.plan.now.names))) (take_all c.loop-name.name-index bs done)
    ∙ sym (map_under bs c.args.run.now.events c.requires.good.same_names (range_with_len 0 (length c.args.plan.now.names)))
