mod Cutting
mod Heads
mod Alone
mod Going
mod Feeds
mod Written
mod WorkedListings
