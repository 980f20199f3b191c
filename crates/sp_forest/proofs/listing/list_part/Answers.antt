use Rattle.std.proofs.Common.{◌+◌, ◌<◌, ◌^◌, [], ◌∷◌, ◌++◌, length, map, List, sym, ◌∙◌, ap, arith, append_assoc}
use Rattle.std.proofs.lemmas.List.{map-append}
use Rattle.sp_plan.specs.declared.found.Match.{Match}
use Rattle.sp_forest.specs.Numbering.{numbered_up}
use Rattle.sp_forest.proofs.PutOn.{at_seam}
use Rattle.sp_forest.proofs.listing.list_part.Goals as goal

pub overflow_add-one : goal.overflow_add-one
overflow_add-one c =
    let l = c.loop-one in
    let are = ap (λ (r : List Match). l.yielded ++ r) (sym c.in-Some.ensures.steps.0) ∙ l.invariant.all in
    let fits : c.in-Some.one.number + length c.args.all.now.items < 2 ^ 64 =
    at_seam (λ one. one.number < 2 ^ 64) (numbered_up (length c.args.all.now.items)) l.yielded c.in-Some.one c.next.new.self.rest.items c.args.found.items are c.requires.fit in
    omega (arith, fits, c.len-before.ensures, c.args.all.now.ok.0)

pub loop-one-preserved : goal.loop-one-preserved
loop-one-preserved c =
    let l = c.loop-one in
    let rest = c.next.new.self.rest.items in
    let old = c.args.all.now.items in
    let before = c.len-before.ensures ∙ c.args.all.now.ok.0 in
    record {
      listed = c.in_ok-push.ensures.items ∙ ap (λ n. l.all.items ++ numbered_up n c.in-Some.one ∷ []) before ∙ ap (λ (k : List Match). k ++ numbered_up (length old) c.in-Some.one ∷ []) l.invariant.listed
          ∙ append_assoc old (map (numbered_up (length old)) l.yielded) (numbered_up (length old) c.in-Some.one ∷ [])
          ∙ ap (λ (k : List Match). old ++ k) (sym (map-append (numbered_up (length old)) l.yielded (c.in-Some.one ∷ [])));
      all = append_assoc l.yielded (c.in-Some.one ∷ []) rest ∙ ap (λ (r : List Match). l.yielded ++ r) (sym c.in-Some.ensures.steps.0) ∙ l.invariant.all;
    }
