mod Counts
mod OneTree
mod SeenWords
mod ValidWords
mod Values
mod Words
