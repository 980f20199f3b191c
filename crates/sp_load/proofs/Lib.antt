pub mod OneTextLaws
mod OneSecondLaws
mod Refusals
