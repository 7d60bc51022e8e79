mod Accepted
mod Finite
mod Indices
mod Zero
