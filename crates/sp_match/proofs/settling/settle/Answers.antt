use Rattle.std.proofs.Common.{◌≡◌, Bool, true, false, cond, List, [], ◌∷◌, map, refl, sym, ap, subst, ◌∙◌}
use Rattle.std.specs.List.{All, filter}
use Rattle.std.proofs.lemmas.List.Elements.{All-filter, filter_passes}
use Rattle.sp_match.specs.declared.run.Run.{Run}
use Rattle.sp_match.specs.declared.run.Fate.{Fate}
use Rattle.sp_match.specs.declared.run.Fate.TheVariants.{Stays, Completes, Leaves}
use Rattle.sp_match.specs.inside.Kept.{Kept, kept, started, stays}
use Rattle.sp_match.specs.inside.Good.{Good}
use Rattle.sp_match.specs.inside.Going.{IsIdle}
use Rattle.sp_match.proofs.AllTurnsGoOn.{open_all}
use Rattle.sp_match.proofs.settling.settle.Goals as goal

kept_filter : (rs : List Run) → map kept (filter (λ run. stays run.fate) rs) ≡ filter (λ k. stays k.fate) (map kept rs)
kept_filter [] = refl
kept_filter (r ∷ rs) = one (stays r.fate) (kept_filter rs)
  where
    one : (b : Bool) → map kept (filter (λ run. stays run.fate) rs) ≡ filter (λ k. stays k.fate) (map kept rs)
        → map kept (cond b (r ∷ filter (λ run. stays run.fate) rs) (filter (λ run. stays run.fate) rs)) ≡ cond b (kept r ∷ filter (λ k. stays k.fate) (map kept rs)) (filter (λ k. stays k.fate) (map kept rs))
    one true ih = ap (λ (l : List Kept). kept r ∷ l) ih
    one false ih = ih

staying : (f : Fate) → stays f ≡ true → f ≡ Stays
staying Stays e = refl
staying Completes e = cc
staying Leaves e = cc

pub returns-then-not-all_stay : goal.returns-then-not-all_stay
returns-then-not-all_stay c =
    let ks = map kept c.args.runs.now.items in
    let is : map kept c.drop_leaving.new.runs.items ≡ filter (λ k. stays k.fate) ks = ap (map kept) c.drop_leaving.ensures ∙ kept_filter c.args.runs.now.items in
    record {
      runs = ap (map started) is;
      good = λ q good. subst (All (Good q)) (sym is) (All-filter (λ k. stays k.fate) (Good q) ks good);
      idle = subst (All IsIdle) (sym is) (λ k d within. staying _ (filter_passes (λ k. stays k.fate) ks k d within));
    }

pub returns-else-not-all_stay-clause-runs : goal.returns-else-not-all_stay-clause-runs
returns-else-not-all_stay-clause-runs c = sym (open_all (map kept c.args.runs.now.items) (c.requires.stay c.if-not-all_stay.false))
