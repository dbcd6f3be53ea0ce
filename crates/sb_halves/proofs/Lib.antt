mod KeepsLemmas
mod OneHalf
