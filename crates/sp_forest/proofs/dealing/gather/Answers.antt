use Rattle.std.proofs.Common.{◌≡◌, ◌+◌, ◌-◌, ◌++◌, ℕ, zero, suc, List, map, sym, ◌∙◌, ap, arith, append_assoc}
use Rattle.std.proofs.lemmas.List.{append-nil}
use Rattle.sp_forest.specs.Dealing.{heads, tails, woven}
use Rattle.sp_forest.proofs.Weaving.{woven_more}
use Rattle.sp_forest.proofs.dealing.gather.Goals as goal

-- one group more was taken out
taken_more : {X : Type 0} (n m : ℕ) (ts us : List (List X)) (whole all more : List X) → n ≡ suc m → whole ≡ all ++ woven n ts → us ≡ tails ts → more ≡ all ++ heads ts → whole ≡ more ++ woven m us
taken_more {X} n m ts us whole all more next so rest head =
    so ∙ ap (λ (l : List X). all ++ l) (woven_more n m ts next) ∙ sym (append_assoc all (heads ts) (woven m (tails ts)))
    ∙ ap (λ (l : List X). l ++ woven m (tails ts)) (sym head) ∙ ap (λ (l : List (List X)). more ++ woven m l) (sym rest)

taken_all : {X : Type 0} (n : ℕ) (ts : List (List X)) (whole all : List X) → n ≡ 0 → whole ≡ all ++ woven n ts → whole ≡ all
taken_all zero ts whole all none so = so ∙ append-nil all
taken_all (suc n) ts whole all none so = absurd (cc none)

pub loop-preserved : goal.loop-preserved
loop-preserved g c =
    let l = c.loop in
    let took = c.in_ok-gather_group.ensures in record {
      found = taken_more (c.args.groups - l.counter) (c.args.groups - (l.counter + 1)) (map (λ tree. tree.found.items) l.trees.items) (map (λ tree. tree.found.items) c.gather_group.new.trees.items)
          (woven c.args.groups (map (λ tree. tree.found.items) c.args.trees.now.items)) l.all.items c.gather_group.new.all.items (omega arith) l.invariant.found took.tails took.heads;
      names = took.names ∙ l.invariant.names;
      plans = took.plans ∙ l.invariant.plans;
      parts = took.parts ∙ l.invariant.parts;
    }

pub returns-clause-found : goal.returns-clause-found
returns-clause-found g c =
    let l = c.loop in
    sym (taken_all (c.args.groups - l.counter) (map (λ tree. tree.found.items) l.trees.items) (woven c.args.groups (map (λ tree. tree.found.items) c.args.trees.now.items)) l.all.items (omega arith) l.invariant.found)
