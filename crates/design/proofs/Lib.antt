mod Adding
mod Hashes
mod Listing
mod Runs
mod Said
