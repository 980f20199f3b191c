use Rattle.std.proofs.Common.{rules, ◌≡◌, ℕ, ◌<◌, length, false, true, List, get_or, drop, sym, ap, ◌∙◌, subst, arith, ltb}
use Rattle.std.specs.List.{list_any, slice_get}
use Rattle.std.specs.Option.{option_copied}
use Rattle.std.specs.List.Sorted.{IsStrictlyIncreasing, IsPartitionPoint}
use Rattle.std.proofs.lemmas.Bool.Decides.{nat_tests}
use Rattle.std.proofs.lemmas.List.Folds.{list_any_none}
use Rattle.std.proofs.lemmas.List.Sorted.{IsPartitionPoint-from_clause, IsPartitionedBy-ltb}
use Rattle.sp_base.specs.Numbers.{is_among}
use Rattle.sp_scan.proofs.TurnsShow.{among_none}
use Rattle.sp_scan.proofs.BelowAll.{any_behind, at_first, none_below, never_fall}
use Rattle.sp_scan.proofs.pairs.hold_one.Goals as goal

pub returns-in_default : goal.returns-in_default
returns-in_default c =
    let ns = c.args.numbers.now.list in
    let none : length c.list.result.now ≡ 0 = search rules in
    let empty : length ns ≡ 0 = sym (ap length c.list.ensures.list) ∙ none in
    sym (list_any_none (λ (pair : ℕ × ℕ). is_among ns pair.1) c.args.pairs.now (λ k d inside. among_none ns (get_or c.args.pairs.now k d).1 empty))

pub returns : goal.returns
returns c =
    let ps = c.args.pairs.now in
    let ns = c.args.numbers.now.list in
    let least = c.in-Some.least.now in
    let below = c.partition_point-below.result in
    let test = λ (pair : ℕ × ℕ). is_among ns pair.1 in
    let found : c.have_one.result ≡ list_any test (drop below ps) = c.have_one.ensures ∙ ap (list_any test) (search rules) in
    let parted : IsPartitionPoint (λ (pair : ℕ × ℕ). ltb pair.1 least ≡ true) (λ (pair : ℕ × ℕ). ltb pair.1 least ≡ false) ps below =
    IsPartitionPoint-from_clause (λ (pair : ℕ × ℕ). ltb pair.1 least) ps below c.partition_point-below.ensures.partitioned
    (IsPartitionedBy-ltb (λ (pair : ℕ × ℕ). pair.1) ps least (never_fall ps c.requires)) (λ a r f' called. search rules) in
    let first : (d : ℕ) → 0 < length ns → least ≡ get_or ns 0 d = λ d some. at_first ns least d (ap (λ (l : List ℕ). slice_get l 0) (sym c.list.ensures.list) ∙ sym c.first.ensures.value ∙ ap option_copied c.in-Some.is) in
    let up : IsStrictlyIncreasing ns = subst IsStrictlyIncreasing c.list.ensures.list c.list.ensures.rising in
    found ∙ sym (any_behind test ps below (λ i d under inside. none_below ns (get_or ps i d).1 up (λ e some.
    let is_first = first e some in
    let low : ltb (get_or ps i d).1 least ≡ true = parted.0 i d (omega arith) under in
    let lower : (get_or ps i d).1 < least = grind (arith, nat_tests) in
    omega (arith, is_first, lower))))
