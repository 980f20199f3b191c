mod Growing
mod Lines
mod Worked
