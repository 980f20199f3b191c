use Rattle.std.proofs.Common.{rules, ◌≡◌, [], Some, None}
use Rattle.std.specs.List.{last_or}
use Rattle.sp_compile.specs.Checks as checks
use Rattle.sp_compile.specs.Scopes.{pattern_names}
use Rattle.sp_compile.specs.Told.{Refuses}
use Rattle.sp_compile.proofs.Staged.{columns_refuse, time_refuse, names_refuse, first_refuse, last_refuse}
use Rattle.sp_compile.proofs.compiling.named.Goals as goal

pub returns-in_err-pass-clause-refused : goal.returns-in_err-pass-clause-refused
returns-in_err-pass-clause-refused c =
    let query = c.args.query.now in
    let e : checks.columns_fault [] query.columns ≡ Some c.in_err-pass.field-0.0 = search rules in
    let known : Refuses query c.in_err-pass.field-0.0 = columns_refuse query c.in_err-pass.field-0.0 e in
    search rules

pub returns-in_err-pass-2-clause-refused : goal.returns-in_err-pass-2-clause-refused
returns-in_err-pass-2-clause-refused c =
    let query = c.args.query.now in
    let fault = c.in_err-pass-2.field-0.0 in
    let none : checks.columns_fault [] query.columns ≡ None = search rules in
    let e : checks.time_fault query.columns query.time ≡ Some c.in_err-pass-2.field-0.0 = search rules in
    let known : Refuses query c.in_err-pass-2.field-0.0 = time_refuse query c.in_err-pass-2.field-0.0 none e in
    search rules

pub returns-in_err-pass-3-clause-refused : goal.returns-in_err-pass-3-clause-refused
returns-in_err-pass-3-clause-refused c =
    let query = c.args.query.now in
    let none : checks.columns_fault [] query.columns ≡ None = search rules in
    let timed : checks.time_fault query.columns query.time ≡ None = search rules in
    let e : checks.names_fault [] (pattern_names query) ≡ Some c.in_err-pass-3.field-0.0 = search rules in
    let known : Refuses query c.in_err-pass-3.field-0.0 = names_refuse query c.in_err-pass-3.field-0.0 none timed e in
    search rules

pub returns-in_err-pass-4-clause-refused : goal.returns-in_err-pass-4-clause-refused
returns-in_err-pass-4-clause-refused c =
    let query = c.args.query.now in
    let none : checks.columns_fault [] query.columns ≡ None = search rules in
    let timed : checks.time_fault query.columns query.time ≡ None = search rules in
    let single : checks.names_fault [] (pattern_names query) ≡ None = search rules in
    let e : checks.first_fault query.elements ≡ Some c.in_err-pass-4.field-0.0 = search rules in
    let known : Refuses query c.in_err-pass-4.field-0.0 = first_refuse query c.in_err-pass-4.field-0.0 none timed single e in
    search rules

pub returns-in_err-pass-5-clause-refused : goal.returns-in_err-pass-5-clause-refused
returns-in_err-pass-5-clause-refused c =
    let query = c.args.query.now in
    let none : checks.columns_fault [] query.columns ≡ None = search rules in
    let timed : checks.time_fault query.columns query.time ≡ None = search rules in
    let single : checks.names_fault [] (pattern_names query) ≡ None = search rules in
    let begins : checks.first_fault query.elements ≡ None = search rules in
    let e : checks.last_fault (last_or None query.elements) ≡ Some c.in_err-pass-5.field-0.0 = search rules in
    let known : Refuses query c.in_err-pass-5.field-0.0 = last_refuse query c.in_err-pass-5.field-0.0 none timed single begins e in
    search rules
