mod TornFiles
mod Moments
mod Replays
mod Steps
mod Tails
