mod Grows
mod Opened
mod Closed
mod SameNext
