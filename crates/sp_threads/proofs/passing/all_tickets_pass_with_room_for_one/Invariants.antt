use Rattle.sp_threads.proofs.passing.all_tickets_pass_with_room_for_one.Given as goal

abbrev pub ghosts-pass-L-Naming : goal.ghosts-pass-L-Naming
ghosts-pass-L-Naming g a = record { table = a.opened.table }

abbrev pub ghosts-pass-L-Ledger : goal.ghosts-pass-L-Ledger
ghosts-pass-L-Ledger g a = record { name = a.opened.name; parts = a.opened.parts }
