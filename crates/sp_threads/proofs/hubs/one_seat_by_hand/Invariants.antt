use Rattle.sp_threads.proofs.hubs.one_seat_by_hand.Given as goal

abbrev pub ghosts-by_hand-L-Naming : goal.ghosts-by_hand-L-Naming
ghosts-by_hand-L-Naming g a = record { table = a.opened.table }

abbrev pub ghosts-by_hand-L-Ledger : goal.ghosts-by_hand-L-Ledger
ghosts-by_hand-L-Ledger g a = record { name = a.opened.name; parts = a.opened.parts }
