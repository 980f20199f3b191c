use Rattle.sp_split.proofs.driving.drive_shared.Given as goal

abbrev pub ghosts-with_register : goal.ghosts-with_register
ghosts-with_register g a = record { book = a.register.seen.book }
