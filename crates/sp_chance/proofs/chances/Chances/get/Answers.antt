use Rattle.std.proofs.Common.{◌≡◌, ℕ, List, true, false, refl, sym, ap, ◌∙◌, subst}
use Rattle.sp_chance.specs.declared.chances.Chance.{Chance}
use Rattle.sp_chance.specs.Shares.{share_of, chance_at, IsPlace, IsAt}
use Rattle.sp_chance.proofs.Ordered.{read-at, none-before, none-at-all, share-absent, share-present}
use Rattle.sp_chance.proofs.chances.Chances.get.Goals as goal

-- the share that is found
found : (cs : List Chance) (version run at : ℕ) (c : Chance) → IsPlace cs version run at → IsAt cs version run at → c ≡ chance_at cs at
    → c.share ≡ share_of cs version run
found cs version run at c place is here =
    ap (λ (x : Chance). x.share) here ∙ sym (share-present cs version run at (none-before cs version run at place) is)

pub returns-then-is_at : goal.returns-then-is_at
returns-then-is_at c =
    let list = c.self.inside.list.items in
    let place : IsPlace list c.args.version c.args.run c.place-at.result
    = subst (λ (cs : List Chance). IsPlace cs c.args.version c.args.run c.place-at.result) c.deref.ensures.value c.place-at.ensures in
    let is : IsAt list c.args.version c.args.run c.place-at.result
    = subst (λ (cs : List Chance). IsAt cs c.args.version c.args.run c.place-at.result) c.deref-2.ensures.value (c.if-is_at.ensures.0 refl) in
    found list c.args.version c.args.run c.place-at.result c.index.result.now place is (read-at list c.place-at.result c.index.result.now is.within c.index.ensures)
    ∙ ap (λ cs. share_of cs c.args.version c.args.run) c.self.view_is

pub returns-else-is_at : goal.returns-else-is_at
returns-else-is_at c =
    let list = c.self.inside.list.items in
    let place : IsPlace list c.args.version c.args.run c.place-at.result
    = subst (λ (cs : List Chance). IsPlace cs c.args.version c.args.run c.place-at.result) c.deref.ensures.value c.place-at.ensures in
    let missing : IsAt list c.args.version c.args.run c.place-at.result → ⊥
    = λ is.
    let no : false ≡ true
    = c.if-is_at.ensures.1 (subst (λ (cs : List Chance). IsAt cs c.args.version c.args.run c.place-at.result) (sym c.deref-2.ensures.value) is) in
    cc
    in
    c.new.ensures
    ∙ sym (share-absent list c.args.version c.args.run (none-at-all list c.args.version c.args.run c.place-at.result c.self.invariant.0 place missing))
    ∙ ap (λ cs. share_of cs c.args.version c.args.run) c.self.view_is
