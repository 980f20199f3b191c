use Rattle.sp_split.proofs.fitting.with_register.Given as goal

abbrev pub ghosts-under-L-Naming : goal.ghosts-under-L-Naming
ghosts-under-L-Naming g a = record { table = a.opened.table }

abbrev pub ghosts-under-L-Ledger : goal.ghosts-under-L-Ledger
ghosts-under-L-Ledger g a = record { name = a.opened.name; parts = a.opened.parts }
