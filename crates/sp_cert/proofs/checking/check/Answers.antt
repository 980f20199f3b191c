use Rattle.std.proofs.Common.{◌≡◌, ◌+◌, length, map, refl, sym, ◌∙◌, subst, arith}
use Rattle.std.specs.Arc.{arc_value}
use Rattle.sp_plan.specs.Windows.{closed}
use Rattle.sp_plan.specs.WindowNumbers.{Good}
use Rattle.sp_listing.specs.Listing.{seen}
use Rattle.sp_cert.specs.Proofs.{proofs}
use Rattle.sp_cert.specs.Verdicts.{AgreeTo, DiffersFirst}
use Rattle.sp_cert.proofs.Judging.{yes_is, no_is, not_right, number_fits}
use Rattle.sp_cert.proofs.checking.check.Goals as goal
use Rattle.sp_cert.proofs.checking.check.Goals.{else-right-listing-via-then-right-listing+else-right-closed, else-right-listing-via-else-right-listing}

pub returns-then-right-closed-clause-yes : goal.returns-then-right-closed-clause-yes
returns-then-right-closed-clause-yes g c =
    let q = arc_value c.args.plan in
    let events = c.args.events.now in
    let n = c.in_ok-right.right in
    let good : Good q events = (c.requires.fit, c.requires.ordered) in
    let known = c.in_ok-windows.ensures in
    let agree : AgreeTo (map seen c.args.listing.now) (proofs q events c.args.ended) n = subst (λ l. AgreeTo (map seen c.args.listing.now) l n) (λ i. proofs (c.deref.ensures i) events (known.ended i)) c.in_ok-right.ensures in
    let shut : c.closed.result ≡ closed q events c.args.ended =
    c.closed.ensures events c.in_ok-windows.windows.ended known.windows.stands ∙ (λ i. closed ((known.windows.plan_is ∙ c.in_ok-clone.ensures.cases) i) events (known.ended i)) in
    (λ _. yes_is q c.requires.compiled.windowed events good c.args.ended c.args.listing.now n agree c.if-right-listing.true (c.if-right-closed.true ∙ shut), λ _. refl)

pub overflow_add-result : goal.overflow_add-result
overflow_add-result g c =
    let q = arc_value c.args.plan in
    let events = c.args.events.now in
    let n = c.in_ok-right.right in
    let good : Good q events = (c.requires.fit, c.requires.ordered) in
    let known = c.in_ok-windows.ensures in
    let agree : AgreeTo (map seen c.args.listing.now) (proofs q events c.args.ended) n = subst (λ l. AgreeTo (map seen c.args.listing.now) l n) (λ i. proofs (c.deref.ensures i) events (known.ended i)) c.in_ok-right.ensures in
    let fits = number_fits q c.requires.compiled.windowed events good c.args.ended c.args.listing.now n agree c.requires.few in
    omega arith

pub overflow_cast-result : goal.overflow_cast-result
overflow_cast-result g c =
    let q = arc_value c.args.plan in
    let events = c.args.events.now in
    let n = c.in_ok-right.right in
    let good : Good q events = (c.requires.fit, c.requires.ordered) in
    let known = c.in_ok-windows.ensures in
    let agree : AgreeTo (map seen c.args.listing.now) (proofs q events c.args.ended) n = subst (λ l. AgreeTo (map seen c.args.listing.now) l n) (λ i. proofs (c.deref.ensures i) events (known.ended i)) c.in_ok-right.ensures in
    let fits = number_fits q c.requires.compiled.windowed events good c.args.ended c.args.listing.now n agree c.requires.few in
    omega arith

pub returns : goal.returns
returns g c =
    let q = arc_value c.args.plan in
    let events = c.args.events.now in
    let n = c.in_ok-right.right in
    let good : Good q events = (c.requires.fit, c.requires.ordered) in
    let known = c.in_ok-windows.ensures in
    let agree : AgreeTo (map seen c.args.listing.now) (proofs q events c.args.ended) n = subst (λ l. AgreeTo (map seen c.args.listing.now) l n) (λ i. proofs (c.deref.ensures i) events (known.ended i)) c.in_ok-right.ensures in
    let more : ¬ ((n ≡ length c.args.listing.now) × (n ≡ closed q events c.args.ended)) = λ both. elim c.else-right-listing.branch [
      | else-right-listing-via-then-right-listing+else-right-closed w ↦
          let shut : w.closed.result ≡ closed q events c.args.ended =
          w.closed.ensures events c.in_ok-windows.windows.ended known.windows.stands ∙ (λ i. closed ((known.windows.plan_is ∙ c.in_ok-clone.ensures.cases) i) events (known.ended i)) in
          w.if-right-closed.false (both.1 ∙ sym shut)
      | else-right-listing-via-else-right-listing w ↦ w.if-right-listing.false both.0
    ] in
    let first = no_is q c.requires.compiled.windowed events good c.args.ended c.args.listing.now n agree more in
    record {
      yes = (λ is. absurd (cc is), λ same. absurd (not_right (map seen c.args.listing.now) (proofs q events c.args.ended) (n + 1) first same));
      no = λ window is. (let same : n + 1 ≡ window = cc is in subst (DiffersFirst (map seen c.args.listing.now) (proofs q events c.args.ended)) same first);
    }
