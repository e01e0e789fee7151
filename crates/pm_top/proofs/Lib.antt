mod Exact
mod Due
mod Serving
mod Ends
mod Headline
mod Causes
