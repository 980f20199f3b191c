-- What callers see of the scan of a window, and what is laid down of its inside.
pub mod Scanning
pub mod inside
