pub mod Rising
pub mod Placed
pub mod Cut
pub mod Merging
pub mod RisingLists
pub mod TakenBack
