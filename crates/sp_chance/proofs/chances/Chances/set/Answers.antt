use Rattle.std.proofs.Common.{◌≡◌, ◌≤◌, ℕ, List, true, false, cond, slice_set, refl, sym, ap, ◌∙◌, subst}
use Rattle.std.proofs.lemmas.Bool.{cond_both}
use Rattle.sp_base.specs.Limits.{whole_share}
use Rattle.sp_chance.specs.declared.chances.Chance.{Chance}
use Rattle.sp_chance.specs.Shares.{is_that, share_of, chance_at, AreOrdered, AreParts, SetsOnly, IsPlace, IsAt}
use Rattle.sp_chance.proofs.Ordered.{read-at, none-before, none-at-all, share-set, share-insert, set-ordered, insert-ordered}
use Rattle.sp_chance.proofs.chances.Chances.set.Goals as goal

-- another share where the run's own stands
set_anew : (cs : List Chance) (version run at share : ℕ) (c : Chance) → IsPlace cs version run at → IsAt cs version run at → c ≡ chance_at cs at
    → (v r : ℕ) → share_of (slice_set cs at (record { version = c.version; run = c.run; share = share })) v r
    ≡ cond (is_that v r version run) share (share_of cs v r)
set_anew cs version run at share c place is here v r =
    let version_is : c.version ≡ version = ap (λ (x : Chance). x.version) here ∙ is.version_is in
    let run_is : c.run ≡ run = ap (λ (x : Chance). x.run) here ∙ is.run_is in
    let now : List Chance = slice_set cs at (record { version = version; run = run; share = share }) in
    ap (λ n. share_of (slice_set cs at (record { version = n; run = c.run; share = share })) v r) version_is
    ∙ ap (λ n. share_of (slice_set cs at (record { version = version; run = n; share = share })) v r) run_is
    ∙ share-set cs at (record { version = version; run = run; share = share }) (none-before cs version run at place) is v r

-- no run has more than the whole then
parts-set : (cs new : List Chance) (version run share : ℕ) → AreParts cs → share ≤ whole_share → SetsOnly cs new version run share → AreParts new
parts-set cs new version run share parts most sets = record {
  most = λ v r. subst (λ n. n ≤ whole_share) (sym (sets v r)) (cond_both (is_that v r version run) share (share_of cs v r) (λ n. n ≤ whole_share) (λ _. most) (λ _. parts.most v r));
}

pub returns-then-is_at-clause-ok : goal.returns-then-is_at-clause-ok
returns-then-is_at-clause-ok c v r =
    let list = c.self.inside.list.items in
    let place : IsPlace list c.args.version c.args.run c.place-at.result
    = subst (λ (cs : List Chance). IsPlace cs c.args.version c.args.run c.place-at.result) c.deref.ensures.value c.place-at.ensures in
    let is : IsAt list c.args.version c.args.run c.place-at.result
    = subst (λ (cs : List Chance). IsAt cs c.args.version c.args.run c.place-at.result) c.deref-2.ensures.value (c.if-is_at.ensures.0 refl) in
    set_anew list c.args.version c.args.run c.place-at.result c.args.share c.index_mut.result.now place is
    (read-at list c.place-at.result c.index_mut.result.now is.within c.index_mut.ensures.value) v r
    ∙ ap (λ cs. cond (is_that v r c.args.version c.args.run) c.args.share (share_of cs v r)) c.self.view_is

pub invariant_of-self : goal.invariant_of-self
invariant_of-self c =
    let list = c.self.inside.list.items in
    let new : Chance = record { version = c.index_mut.result.now.version; run = c.index_mut.result.now.run; share = c.args.share } in
    let place : IsPlace list c.args.version c.args.run c.place-at.result
    = subst (λ (cs : List Chance). IsPlace cs c.args.version c.args.run c.place-at.result) c.deref.ensures.value c.place-at.ensures in
    let is : IsAt list c.args.version c.args.run c.place-at.result
    = subst (λ (cs : List Chance). IsAt cs c.args.version c.args.run c.place-at.result) c.deref-2.ensures.value (c.if-is_at.ensures.0 refl) in
    let here = read-at list c.place-at.result c.index_mut.result.now is.within c.index_mut.ensures.value in (
      set-ordered list c.place-at.result new c.self.invariant.0
          (record { within = is.within; version_is = sym (ap (λ (x : Chance). x.version) here); run_is = sym (ap (λ (x : Chance). x.run) here) }),
      parts-set list (slice_set list c.place-at.result new) c.args.version c.args.run c.args.share c.self.invariant.1 (subst (λ n. n ≤ whole_share) c.get.ensures.parts c.get.ensures.most)
          (set_anew list c.args.version c.args.run c.place-at.result c.args.share c.index_mut.result.now place is here),
    )

pub invariant_of-self-2 : goal.invariant_of-self-2
invariant_of-self-2 c =
    let list = c.self.inside.list.items in
    let new : Chance = record { version = c.args.version; run = c.args.run; share = c.args.share } in
    let place : IsPlace list c.args.version c.args.run c.place-at.result
    = subst (λ (cs : List Chance). IsPlace cs c.args.version c.args.run c.place-at.result) c.deref.ensures.value c.place-at.ensures in
    let missing : IsAt list c.args.version c.args.run c.place-at.result → ⊥
    = λ is.
    let no : false ≡ true
    = c.if-is_at.ensures.1 (subst (λ (cs : List Chance). IsAt cs c.args.version c.args.run c.place-at.result) (sym c.deref-2.ensures.value) is) in
    cc
    in (
      subst AreOrdered (sym c.in_ok-insert.ensures.items)
          (insert-ordered list c.place-at.result new c.self.invariant.0 place (none-at-all list c.args.version c.args.run c.place-at.result c.self.invariant.0 place missing) c.ranges.run.fits),
      parts-set list c.insert.new.self.items c.args.version c.args.run c.args.share c.self.invariant.1 (subst (λ n. n ≤ whole_share) c.get.ensures.parts c.get.ensures.most)
          (λ v r. ap (λ cs. share_of cs v r) c.in_ok-insert.ensures.items ∙ share-insert list c.place-at.result new (none-before list c.args.version c.args.run c.place-at.result place) v r),
    )

pub returns-clause-ok : goal.returns-clause-ok
returns-clause-ok c v r =
    let list = c.self.inside.list.items in
    let new : Chance = record { version = c.args.version; run = c.args.run; share = c.args.share } in
    let place : IsPlace list c.args.version c.args.run c.place-at.result
    = subst (λ (cs : List Chance). IsPlace cs c.args.version c.args.run c.place-at.result) c.deref.ensures.value c.place-at.ensures in
    ap (λ cs. share_of cs v r) c.in_ok-insert.ensures.items
    ∙ share-insert list c.place-at.result new (none-before list c.args.version c.args.run c.place-at.result place) v r
    ∙ ap (λ cs. cond (is_that v r c.args.version c.args.run) c.args.share (share_of cs v r)) c.self.view_is
